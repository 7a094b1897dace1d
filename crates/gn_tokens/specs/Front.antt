-- What stands at the front of bytes, as a function.
use Rattle.std.specs.Prelude.{ℕ, suc, ◌+◌, Bool, true, false, not, ◌==◌, if◌then◌else◌, List, [], ◌∷◌, drop, Option, Some, None, codes}
use Rattle.std.specs.List.{prefix_len}
use Rattle.gn_tokens.specs.declared.token.TokenKind.{TokenKind}
use Rattle.gn_tokens.specs.declared.token.TokenKind.TheVariants as k
use Rattle.gn_tokens.specs.Bytes.{is_letter, is_word_byte, is_white, begins_with, front_word, is_text}
use Rattle.gn_tokens.specs.Number.{begins_run, integer_len}
use Rattle.gn_tokens.specs.Text.{text_len, first_bad}

-- how many bytes of white space and comments stand at the front, where the bytes begin inside a comment or not
abbrev pub gap_len : Bool → List ℕ → ℕ
gap_len in_comment [] = 0
gap_len true (b ∷ bs) = suc (gap_len (not (b == 10)) bs)
gap_len false (b ∷ bs) = if b == 35 then suc (gap_len true bs) else (if is_white b then suc (gap_len false bs) else 0)

-- a token with its length, or why there is none
pub data Front : Type 0 where
  Found : (kind : TokenKind) → (len : ℕ) → Front
  WrongByte : Front
  WrongNumber : Front
  NotClosed : Front
  -- behind so many bytes
  WrongDollar : (len : ℕ) → Front

-- the kind of a word
abbrev pub word_kind : List ℕ → TokenKind
word_kind w =
    if is_text (codes "if") w then k.If else (
    if is_text (codes "else") w then k.Else else (
    if is_text (codes "true") w then k.True else (
    if is_text (codes "false") w then k.False else k.Identifier)))

abbrev pub front_number : Option ℕ → Front
front_number None = WrongNumber
front_number (Some n) = Found k.Integer n

-- a closed string of which so many bytes are between the quotes, and its first bad `$`
abbrev pub front_closed : ℕ → Option ℕ → Front
front_closed n None = Found k.Str (n + 2)
front_closed n (Some at) = WrongDollar (at + 1)

-- the string whose opening quote is followed by these bytes, of which the first n are its text
abbrev pub front_string : ℕ → List ℕ → Front
front_string n bs = if begins_with 34 (drop n bs) then front_closed n (first_bad false bs) else NotClosed

-- a mark of one byte, or with `=` behind it the other one
abbrev pub or_equal : TokenKind → TokenKind → List ℕ → Front
or_equal short long bs = if begins_with 61 bs then Found long 2 else Found short 1

-- a mark of two bytes, of which this is the second
abbrev pub twice : ℕ → TokenKind → List ℕ → Front
twice b kind bs = if begins_with b bs then Found kind 2 else WrongByte

-- the mark that begins with this byte
abbrev pub front_mark : ℕ → List ℕ → Front
front_mark b bs =
    if b == 61 then or_equal k.Assign k.Equal bs else (
    if b == 43 then or_equal k.Plus k.AddAssign bs else (
    if b == 45 then or_equal k.Minus k.SubAssign bs else (
    if b == 33 then or_equal k.Not k.NotEqual bs else (
    if b == 60 then or_equal k.Less k.LessEqual bs else (
    if b == 62 then or_equal k.Greater k.GreaterEqual bs else (
    if b == 38 then twice 38 k.And bs else (
    if b == 124 then twice 124 k.Or bs else (
    if b == 46 then Found k.Dot 1 else (
    if b == 44 then Found k.Comma 1 else (
    if b == 40 then Found k.OpenParen 1 else (
    if b == 41 then Found k.CloseParen 1 else (
    if b == 91 then Found k.OpenBracket 1 else (
    if b == 93 then Found k.CloseBracket 1 else (
    if b == 123 then Found k.OpenBrace 1 else (
    if b == 125 then Found k.CloseBrace 1 else WrongByte)))))))))))))))

-- what stands at the front, where this is the first byte
abbrev pub front_of : ℕ → List ℕ → Front
front_of b bs =
    if is_letter b then Found (word_kind (front_word (b ∷ bs))) (prefix_len is_word_byte (b ∷ bs))
    else (if begins_run (b ∷ bs) then front_number (integer_len (b ∷ bs))
    else (if b == 34 then front_string (text_len false bs) bs else front_mark b bs))
