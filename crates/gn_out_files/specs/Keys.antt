-- What the entries of a map of files stand for.
use Rattle.std.specs.Prelude.{ℕ, ◌≤◌, List, [], ◌∷◌, map}
use Rattle.gn_outside.specs.States.{PutFile}
use Rattle.gn_out_files.specs.declared.out_files.FileKey.{FileKey}

abbrev pub file_of : FileKey × List ℕ → PutFile
file_of e = (e.0.path, e.1)

abbrev pub files_of : List (FileKey × List ℕ) → List PutFile
files_of es = map file_of es

-- their numbers are no less than this one
abbrev pub AreFrom : ℕ → List (FileKey × List ℕ) → Type 0
AreFrom n [] = Unit {0}
AreFrom n (e ∷ es) = (n ≤ e.0.number) × AreFrom n es
