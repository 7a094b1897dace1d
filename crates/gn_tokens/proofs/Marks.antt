-- The scan for a mark gives what the function says.
use Rattle.std.proofs.Common.{◌≡◌, ℕ, Some, None, refl}
use Rattle.gn_tokens.specs.declared.token.TokenKind.{TokenKind}
use Rattle.gn_tokens.specs.Front.{Front, Found, WrongByte, WrongNumber, NotClosed, WrongDollar}
use Rattle.gn_tokens.specs.Mark.{IsMark}

pub mark_found : (x : Front) (m : TokenKind × ℕ) → IsMark x (Some m) → x ≡ Found m.0 m.1
mark_found (Found kind len) m h = cc
mark_found WrongByte m h = absurd h
mark_found WrongNumber m h = absurd h
mark_found NotClosed m h = absurd h
mark_found (WrongDollar at) m h = absurd h

pub mark_wrong : (x : Front) → IsMark x None → x ≡ WrongByte
mark_wrong (Found kind len) h = absurd h
mark_wrong WrongByte h = refl
mark_wrong WrongNumber h = absurd h
mark_wrong NotClosed h = absurd h
mark_wrong (WrongDollar at) h = absurd h
