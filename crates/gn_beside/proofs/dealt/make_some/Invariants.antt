use Rattle.gn_beside.specs.Dealt.{ArePlaced}
use Rattle.gn_beside.proofs.dealt.make_some.Given as goal

abbrev pub invariant-pieces : goal.invariant-pieces
invariant-pieces g l = ArePlaced (goal.F-post g l.fn.make) l.answers.items

abbrev pub decreases-pieces : goal.decreases-pieces
decreases-pieces g l = l.left
