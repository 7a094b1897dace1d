-- Kinds of bytes, and what bytes begin with.
use Rattle.std.specs.Prelude.{◌≢◌, ℕ, Bool, true, false, not, ◌||◌, ◌&&◌, ◌==◌, List, [], ◌∷◌, take, drop, All, IsTrue, codes}
use Rattle.std.specs.List.{prefix_len}
use Rattle.std.specs.Char.{is_ascii_alphabetic, is_ascii_alphanumeric, is_ascii_digit, is_ascii_hexdigit}

-- a letter or `_`
abbrev pub is_letter : ℕ → Bool
is_letter b = is_ascii_alphabetic b || b == 95

-- a letter, a digit or `_`
abbrev pub is_word_byte : ℕ → Bool
is_word_byte b = is_ascii_alphanumeric b || b == 95

-- a digit
abbrev pub is_digit : ℕ → Bool
is_digit b = is_ascii_digit b

-- a hexadecimal digit of either case
abbrev pub is_hex_digit : ℕ → Bool
is_hex_digit b = is_ascii_hexdigit b

-- space, tab, carriage return or newline
abbrev pub is_white : ℕ → Bool
is_white b = b == 32 || b == 9 || b == 13 || b == 10

-- `"`, `$` or a backslash: what a backslash before it takes for itself
abbrev pub is_escapable : ℕ → Bool
is_escapable b = b == 34 || b == 36 || b == 92

-- The first byte passes.
abbrev pub begins : (ℕ → Bool) → List ℕ → Bool
begins p [] = false
begins p (b ∷ bs) = p b

-- The first byte is this one.
abbrev pub begins_with : ℕ → List ℕ → Bool
begins_with c bs = begins (λ b. b == c) bs

-- a letter or `_`, then letters, digits and `_`
abbrev pub IsWord : List ℕ → Type 0
IsWord [] = ⊥
IsWord (b ∷ bs) = IsTrue (is_letter b) × All (λ c. IsTrue (is_word_byte c)) bs

-- a word that is none of the reserved ones
abbrev pub IsIdentifier : List ℕ → Type 0
IsIdentifier bs = IsWord bs × (bs ≢ codes "if") × (bs ≢ codes "else") × (bs ≢ codes "true") × (bs ≢ codes "false")

-- The same as functions.

-- the word at the front
abbrev pub front_word : List ℕ → List ℕ
front_word bs = take (prefix_len is_word_byte bs) bs

-- what stands behind it
abbrev pub past_word : List ℕ → List ℕ
past_word bs = drop (prefix_len is_word_byte bs) bs

-- The second bytes are the first ones.
abbrev pub is_text : List ℕ → List ℕ → Bool
is_text [] [] = true
is_text [] (b ∷ bs) = false
is_text (c ∷ cs) [] = false
is_text (c ∷ cs) (b ∷ bs) = b == c && is_text cs bs

abbrev pub is_reserved : List ℕ → Bool
is_reserved word = is_text (codes "if") word || is_text (codes "else") word || is_text (codes "true") word || is_text (codes "false") word

-- An identifier stands at the front.
abbrev pub is_name : List ℕ → Bool
is_name bs = begins is_letter bs && not (is_reserved (front_word bs))
