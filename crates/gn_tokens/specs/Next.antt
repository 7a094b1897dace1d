-- Which token stands next.
use Rattle.std.specs.Prelude.{◌≡◌, ◌≢◌, ℕ, ◌+◌, ◌<◌, ◌≤◌, false, List, [], ◌∷◌, ◌++◌, length, drop, Option, Some, None, Result, Ok, Err, slice_index, slice_range}
use Rattle.gn_tokens.specs.declared.token.Token.{Token}
use Rattle.gn_tokens.specs.declared.token.TokenKind.{TokenKind}
use Rattle.gn_tokens.specs.declared.token.TokenError.{TokenError}
use Rattle.gn_tokens.specs.declared.token.TokenError.TheVariants.{BadByte, BadNumber, OpenString, BadDollar}
use Rattle.gn_tokens.specs.Bytes.{is_white}
use Rattle.gn_tokens.specs.Number.{IsBadRun}
use Rattle.gn_tokens.specs.Text.{IsOpen, IsBadDollarBehind}
use Rattle.gn_tokens.specs.Token.{IsToken, IsGap}
use Rattle.gn_tokens.specs.Front.{Front, Found, WrongByte, WrongNumber, NotClosed, WrongDollar, gap_len, front_of}

-- what is read: the bytes of a file, and the offset from which the next token is looked for
pub record Reader : Type 0 where
  pub bytes : List ℕ
  pub at : ℕ

-- From the offset `at` on, white space and comments come first and then this token, which is the longest that begins there.
-- Before that stands the rule on numbers: a run of digits, or of `-` and digits, is one number or none, and is never cut.
pub record IsNextToken (bytes : List ℕ) (at : ℕ) (token : Token) : Type 0 where
  pub starts : at ≤ token.start
  pub ends : token.start < token.end
  pub within : token.end ≤ length bytes
  pub gap : IsGap (slice_range bytes at token.start)
  pub is_token : IsToken token.kind (slice_range bytes token.start token.end)
  pub longest : (kind : TokenKind) (end : ℕ) → token.end < end → end ≤ length bytes → ¬ IsToken kind (slice_range bytes token.start end)
  pub not_cut : (len : ℕ) → ¬ IsBadRun (drop token.start bytes) len

-- From the offset `at` on, white space and comments come first and then this byte, at which no token of any length begins, and no string that is wrong.
pub record IsBadByte (bytes : List ℕ) (at offset : ℕ) : Type 0 where
  pub starts : at ≤ offset
  pub within : offset < length bytes
  pub gap : IsGap (slice_range bytes at offset)
  pub not_white : is_white (slice_index bytes offset) ≡ false
  pub not_comment : slice_index bytes offset ≢ 35
  pub not_quote : slice_index bytes offset ≢ 34
  pub no_token : (kind : TokenKind) (end : ℕ) → offset ≤ end → end ≤ length bytes → ¬ IsToken kind (slice_range bytes offset end)

-- From the offset `at` on, white space and comments come first and then a run of digits that is no integer, or that a letter or `_` follows.
pub record IsBadNumber (bytes : List ℕ) (at offset : ℕ) : Type 0 where
  pub starts : at ≤ offset
  pub gap : IsGap (slice_range bytes at offset)
  pub len : ℕ
  pub is_bad : IsBadRun (drop offset bytes) len

-- From the offset `at` on, white space and comments come first and then the opening quote of a string that is not finished.
pub record IsOpenString (bytes : List ℕ) (at offset : ℕ) : Type 0 where
  pub starts : at ≤ offset
  pub gap : IsGap (slice_range bytes at offset)
  pub is_open : IsOpen (drop offset bytes)

-- From the offset `at` on, white space and comments come first and then a finished string, whose first `$` that is neither of an escape nor of an expansion is this one.
pub record IsBadDollar (bytes : List ℕ) (at offset : ℕ) : Type 0 where
  pub start : ℕ
  pub len : ℕ
  pub starts : at ≤ start
  pub gap : IsGap (slice_range bytes at start)
  pub is_bad : IsBadDollarBehind (drop start bytes) len
  pub offset_is : offset ≡ start + len

-- Only white space and comments are left. The newline of a last comment may be missing.
abbrev pub IsOnlyGap : List ℕ → ℕ → Type 0
IsOnlyGap bytes at = IsGap (drop at bytes ++ 10 ∷ [])

-- the right answer of a reader: the next token, nothing at the end, or the error that stands next
abbrev pub IsNext : Reader → Result (Option Token) TokenError → Type 0
IsNext reader (Ok (Some token)) = IsNextToken reader.bytes reader.at token
IsNext reader (Ok None) = IsOnlyGap reader.bytes reader.at
IsNext reader (Err (BadByte offset)) = IsBadByte reader.bytes reader.at offset
IsNext reader (Err (BadNumber offset)) = IsBadNumber reader.bytes reader.at offset
IsNext reader (Err (OpenString offset)) = IsOpenString reader.bytes reader.at offset
IsNext reader (Err (BadDollar offset)) = IsBadDollar reader.bytes reader.at offset

-- The same as a function.

-- the answer, where this stands at the offset
abbrev pub front_answer : ℕ → Front → Result (Option Token) TokenError
front_answer start (Found kind len) = Ok (Some (record { kind = kind; start = start; end = start + len }))
front_answer start WrongByte = Err (BadByte start)
front_answer start WrongNumber = Err (BadNumber start)
front_answer start NotClosed = Err (OpenString start)
front_answer start (WrongDollar len) = Err (BadDollar (start + len))

-- the answer, where these bytes begin at the offset
abbrev pub answer : ℕ → List ℕ → Result (Option Token) TokenError
answer start [] = Ok None
answer start (b ∷ bs) = front_answer start (front_of b bs)

-- the next token from the offset on, nothing at the end, or the error
abbrev pub next_token : List ℕ → ℕ → Result (Option Token) TokenError
next_token bytes at = let start = at + gap_len false (drop at bytes) in answer start (drop start bytes)

-- where a reader stands behind this answer: behind the token, or where it was
abbrev pub offset_behind : ℕ → Result (Option Token) TokenError → ℕ
offset_behind at (Ok (Some token)) = token.end
offset_behind at (Ok None) = at
offset_behind at (Err error) = at
