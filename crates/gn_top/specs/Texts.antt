-- The texts that are no fault's.
use Rattle.std.specs.Prelude.{ℕ, List, [], ◌∷◌, ◌++◌, codes, decimal}

-- a text and a newline
abbrev pub line : List ℕ → List ℕ
line text = text ++ 10 ∷ []

abbrev pub usage_line : List ℕ
usage_line = line (codes "usage: gn gen|ls|desc|refs|path|check|args|sample ...")

abbrev pub build_file : List ℕ
build_file = codes "//BUILD.gn"

-- a read of this path has failed
abbrev pub cannot_read_line : List ℕ → List ℕ
cannot_read_line path = line (codes "gn: cannot read " ++ path)

-- so many targets were generated from so many build files
unfoldable pub done_line : (targets files : ℕ) → List ℕ
done_line targets files = line (codes "Done. Made " ++ (decimal targets ++ (codes " targets from " ++ (decimal files ++ codes " files"))))
