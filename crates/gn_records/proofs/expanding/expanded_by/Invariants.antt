use Rattle.std.proofs.Common.{◌≡◌, take}
use Rattle.std.specs.List.{flat_map}
use Rattle.gn_substs.specs.Expansions.{text_in, piece_with}
use Rattle.gn_records.specs.Expanding.{given_by}
use Rattle.gn_records.proofs.expanding.expanded_by.Given as goal

abbrev pub invariant-loop-piece : goal.invariant-loop-piece
invariant-loop-piece l = l.made ≡ flat_map (piece_with (text_in (given_by l.by))) (take l.piece-index l.text.pieces)
