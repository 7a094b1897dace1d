use Rattle.std.proofs.Common.{◌≡◌, take, map}
use Rattle.std.specs.Arc.{arc_value}
use Rattle.gn_evaluation_base.proofs.base.shared.Given as goal

abbrev pub invariant-loop-scope : goal.invariant-loop-scope
invariant-loop-scope l = map arc_value l.copies.items ≡ take l.scope-index (map arc_value l.scopes)
