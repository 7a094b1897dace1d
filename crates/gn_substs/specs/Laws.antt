-- What is proved of substitution texts themselves.
use Rattle.std.specs.Prelude.{ℕ, ◌≡◌, List, [], ◌∷◌, ◌++◌, length, Result, Ok, Err, ⊤}
use Rattle.gn_substs.specs.declared.names.Substitution.{Substitution}
use Rattle.gn_substs.specs.declared.positions.Position.{Position}
use Rattle.gn_substs.specs.declared.pieces.SubstPiece.{SubstPiece}
use Rattle.gn_substs.specs.declared.subst.Subst.{Subst}
use Rattle.gn_substs.specs.Names.{substitution_name}
use Rattle.gn_substs.specs.Positions.{StandsAt}
use Rattle.gn_substs.specs.Pieces.{pair_at}
use Rattle.gn_substs.specs.Reading.{IsReadAs, IsFirstBad}
use Rattle.gn_substs.specs.Expansions.{with_texts}

-- The reading is that of the text, and no other is.
pub record HasOneReading (position : Position) (text : List ℕ) (read : Result Subst ℕ) : Type 0 where
  pub pieces : (s : Subst) → IsReadAs position text s.pieces s.last → read ≡ Ok s
  pub are_pieces : (s : Subst) → read ≡ Ok s → IsReadAs position text s.pieces s.last
  pub error : (offset : ℕ) → IsFirstBad position text offset → read ≡ Err offset
  pub is_error : (offset : ℕ) → read ≡ Err offset → IsFirstBad position text offset

-- a substitution between its braces
abbrev pub braced : Substitution → List ℕ
braced s = 123 ∷ 123 ∷ (substitution_name s ++ 125 ∷ 125 ∷ [])

-- the substitution of the piece stands at the position, and no `{{` stands in the bytes before it
abbrev pub IsPieceAt : Position → SubstPiece → Type 0
IsPieceAt position p = StandsAt position p.substitution × (pair_at 123 p.before ≡ length p.before)

-- the same of all pieces
abbrev pub ArePiecesAt : Position → List SubstPiece → Type 0
ArePiecesAt position [] = ⊤
ArePiecesAt position (p ∷ ps) = IsPieceAt position p × ArePiecesAt position ps

-- The text is these pieces and the bytes behind them, with each substitution between its braces.
pub record IsWrittenAs (position : Position) (text : List ℕ) (s : Subst) : Type 0 where
  pub joined : with_texts braced s.pieces s.last ≡ text
  pub pieces : ArePiecesAt position s.pieces
  pub last : pair_at 123 s.last ≡ length s.last
