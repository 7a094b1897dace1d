-- Paths and values as a Ninja file has them, and how Ninja reads them.
use Rattle.std.specs.Prelude.{ℕ, Bool, true, false, List, [], ◌∷◌, ◌++◌, ◌==◌, ◌||◌, Option, if◌then◌else◌, nat_eq}
use Rattle.std.specs.List.{starts_with}
use Rattle.gn_ninja_text.specs.Marks.{all_marked, unmarked}

-- `$`, space and `:`, the bytes that stand behind a `$` in a path
abbrev pub path_special : List ℕ
path_special = 36 ∷ 32 ∷ 58 ∷ []

-- a path in a Ninja file: a `$` before each `$`, space and `:`
unfoldable pub path_escaped : List ℕ → List ℕ
path_escaped path = all_marked 36 path_special path

-- the path that Ninja reads, where it holds no newline, carriage return, NUL or `|`: `$ `, `$:` and `$$` stand for their
-- second byte, every other byte for itself, and a `$` before another byte isn't read here
unfoldable pub path_read : List ℕ → Option (List ℕ)
path_read text = unmarked 36 path_special false text

-- a space and `:` end a path where no `$` stands before them; the flag says that a `$` has just been read
abbrev pub has_bare : Bool → List ℕ → Bool
has_bare marked [] = false
has_bare true (b ∷ more) = has_bare false more
has_bare false (b ∷ more) = if b == 36 then has_bare true more else (b == 32 || (b == 58 || has_bare false more))

-- whether a space or a colon within the text ends a path
unfoldable pub has_bare_separator : List ℕ → Bool
has_bare_separator text = has_bare false text

-- bytes of a value behind its beginning: each `$` is `$$`
abbrev pub doubled : List ℕ → List ℕ
doubled bytes = all_marked 36 (36 ∷ []) bytes

-- a value in a Ninja file: `$` is `$$`, and a space at the beginning is `$ `
unfoldable pub value_escaped : List ℕ → List ℕ
value_escaped value = (if starts_with nat_eq value (32 ∷ []) then 36 ∷ [] else []) ++ all_marked 36 (36 ∷ []) value

-- what stands behind the spaces at the beginning
abbrev pub without_first_spaces : List ℕ → List ℕ
without_first_spaces [] = []
without_first_spaces (b ∷ more) = if b == 32 then without_first_spaces more else b ∷ more

-- the value that Ninja reads behind a `=`, where it holds no newline, carriage return or NUL: spaces at the beginning are
-- dropped, `$ ` and `$$` stand for their second byte, every other byte for itself, and a `$` before another byte isn't
-- read here
unfoldable pub value_read : List ℕ → Option (List ℕ)
value_read text = unmarked 36 (36 ∷ 32 ∷ []) false (without_first_spaces text)
