use Rattle.std.proofs.Common.{◌-◌}
use Rattle.gn_beside.specs.Dealt.{ArePlaced}
use Rattle.gn_beside.proofs.dealt.make_piece.Given as goal

abbrev pub invariant-places : goal.invariant-places
invariant-places g l = ArePlaced (goal.F-post g l.fn.make) l.answers.items

abbrev pub decreases-places : goal.decreases-places
decreases-places g l = l.fn.to - l.place
