-- Words of a shell's command, and how a POSIX shell reads them.
use Rattle.std.specs.Prelude.{ℕ, Bool, true, false, List, [], ◌∷◌, ◌++◌, ◌==◌, ◌||◌, ◌&&◌, not, Option, None, Some, if◌then◌else◌, option_map, length}
use Rattle.std.specs.List.{list_all}
use Rattle.std.specs.Char.{is_ascii_alphanumeric}
use Rattle.gn_ninja_text.specs.Marks.{is_one_of, all_marked}

-- letters, digits and `_ . / = + , @ % ^ - :`, which mean themselves to a shell
abbrev pub is_plain : ℕ → Bool
is_plain b = is_ascii_alphanumeric b || is_one_of (95 ∷ 46 ∷ 47 ∷ 61 ∷ 43 ∷ 44 ∷ 64 ∷ 37 ∷ 94 ∷ 45 ∷ 58 ∷ []) b

-- a word that needs no quotes
abbrev pub is_plain_word : List ℕ → Bool
is_plain_word word = not (length word == 0) && list_all is_plain word

-- `\`, `"`, `$` and the backquote, which stand behind a backslash between double quotes
abbrev pub quotes_special : List ℕ
quotes_special = 92 ∷ 34 ∷ 36 ∷ 96 ∷ []

-- a word as it stands in a command: as it is where it needs no quotes, and else between double quotes
unfoldable pub shell_word_of : List ℕ → List ℕ
shell_word_of word = if is_plain_word word then word else 34 ∷ (all_marked 92 quotes_special word ++ 34 ∷ [])

-- what a shell reads behind an opening `"` to the end of the text, where the closing one must stand. A backslash before
-- a byte of `quotes_special` stands for that byte, with a newline behind it for nothing, and else for itself. None is
-- for a text that isn't closed or goes on behind its close, and for a `$` or a backquote, which begin an expansion. The
-- flag says that a backslash has just been read
abbrev pub quotes_read : Bool → List ℕ → Option (List ℕ)
quotes_read escaped [] = None
quotes_read true (b ∷ more) =
    if is_one_of quotes_special b then option_map (λ said. b ∷ said) (quotes_read false more)
    else (if b == 10 then quotes_read false more else option_map (λ said. 92 ∷ b ∷ said) (quotes_read false more))
quotes_read false (b ∷ more) =
    if b == 34 then (if length more == 0 then Some [] else None)
    else (if b == 92 then quotes_read true more
    else (if is_one_of (36 ∷ 96 ∷ []) b then None else option_map (λ said. b ∷ said) (quotes_read false more)))

-- the word that a shell reads of a text that is one word, between double quotes or of bytes that mean themselves; None
-- is for every other text
unfoldable pub word_read : List ℕ → Option (List ℕ)
word_read [] = None
word_read (b ∷ more) =
    if b == 34 then quotes_read false more else (if list_all is_plain (b ∷ more) then Some (b ∷ more) else None)
