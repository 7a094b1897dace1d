use Rattle.std.proofs.Common.{◌≡◌, [], Some, drop}
use Rattle.gn_items.specs.Effects.{Effects}
use Rattle.gn_expressions.specs.Texts.{pieces_added}
use Rattle.gn_expressions.proofs.strings.add_pieces.Given as goal

abbrev pub invariant-loop-piece : goal.invariant-loop-piece
invariant-loop-piece l = (out : Effects) → pieces_added l.pieces (Some []) l.initial.env out ≡ pieces_added (drop l.piece-index l.pieces) l.text l.env out
