-- A text that is made of pieces, and forgotten once it is longer than a string may be.
use Rattle.std.specs.Prelude.{ℕ, List, [], ◌∷◌, ◌++◌, if◌then◌else◌, Option, Some, None}
use Rattle.gn_tree.specs.declared.piece.Piece.{Piece}
use Rattle.gn_values.specs.Limits.{text_fits}
use Rattle.gn_meaning.specs.Steps.{Steps, then_do, ends}
use Rattle.gn_meaning.specs.Pieces.{piece_runs}

-- the text, where it may be that of a string
abbrev pub within : List ℕ → Option (List ℕ)
within text = if text_fits text then Some text else None

-- with more behind it
abbrev pub lengthened : Option (List ℕ) → List ℕ → Option (List ℕ)
lengthened None more = None
lengthened (Some text) more = within (text ++ more)

-- with the texts of pieces behind it, in order: one that is forgotten stays so, and still each piece is evaluated
abbrev pub pieces_added : List Piece → Option (List ℕ) → Steps (Option (List ℕ))
pieces_added [] text env out = ends text env out
pieces_added (piece ∷ pieces) text env out =
    then_do (then_do (piece_runs piece env out) (λ more env1 out1. ends (lengthened text more) env1 out1)) (pieces_added pieces)
