use Rattle.std.proofs.Common.{◌≡◌, take}
use Rattle.gn_substs.proofs.pieces.Pieces.copy.Given as goal

abbrev pub invariant-loop-piece : goal.invariant-loop-piece
invariant-loop-piece l = l.list.items ≡ take l.piece-index l.piece-items
