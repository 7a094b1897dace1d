-- A mark, as the scan for one gives it.
use Rattle.std.specs.Prelude.{◌≡◌, ℕ, Option, Some, None}
use Rattle.gn_tokens.specs.declared.token.TokenKind.{TokenKind}
use Rattle.gn_tokens.specs.Front.{Front, Found, WrongByte}

-- a mark and its length, or none at a wrong byte
abbrev pub IsMark : Front → Option (TokenKind × ℕ) → Type 0
IsMark (Found kind len) (Some m) = (m.0 ≡ kind) × (m.1 ≡ len)
IsMark WrongByte None = Unit {0}
IsMark _ found = ⊥
