use Rattle.std.proofs.Common.{rules}
use Rattle.gn_values.proofs.Marked.{unmarked_absent}
use Rattle.gn_values.proofs.Sorted.{value_at_place, no_value_at_place}
use Rattle.gn_values.proofs.bindings.Bindings.get.Goals as goal

pub returns-then-not-has : goal.returns-then-not-has
returns-then-not-has c =
    rw (← c.self.view_is) (unmarked_absent c.self.inside.marks c.args.name.now (λ m. let t = c.has.ensures.1 m in search rules) _ c.self.invariant.marked)

pub returns-in-Ok : goal.returns-in-Ok
returns-in-Ok c =
    value_at_place _ _ _ _ _ _ c.self.view_is c.as_slice.ensures.value c.self.invariant.sorted c.in-Ok.ensures c.index.ensures

pub returns-in-Err : goal.returns-in-Err
returns-in-Err c =
    no_value_at_place _ _ _ _ _ c.self.view_is c.as_slice.ensures.value c.self.invariant.sorted c.in-Err.ensures
