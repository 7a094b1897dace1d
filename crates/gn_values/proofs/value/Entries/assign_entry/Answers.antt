use Rattle.std.proofs.Common.{◌≡◌, ◌∙◌, ℕ, List, Ok, None, ap, subst}
use Rattle.gn_values.specs.Val.{Val}
use Rattle.gn_values.specs.Operators.{value_at}
use Rattle.gn_values.specs.Search.{IsEntryAt}
use Rattle.gn_values.proofs.Sorted.{entry_at, no_value_at_place}
use Rattle.gn_values.proofs.Setting.{place_moved}
use Rattle.gn_values.proofs.value.Entries.assign_entry.Goals as goal

pub combine_entry-requires : goal.combine_entry-requires
combine_entry-requires c =
    let place = place_moved c.args.name.now _ _ _ (Ok c.in-Ok.at) c.as_bytes.ensures c.as_slice.ensures c.in-Ok.ensures in
    subst (λ (bs : List (List ℕ × Val)). IsEntryAt c.args.name.now bs c.in-Ok.at) c.self.view_is (entry_at c.args.name.now _ _ place)

pub returns-in-Err-clause-refused : goal.returns-in-Err-clause-refused
returns-in-Err-clause-refused c =
    let absent : None ≡ value_at c.args.name.now c.args.self.now = no_value_at_place _ _ _ _ _ c.self.view_is c.as_slice.ensures c.self.invariant.limits.sorted c.in-Err.ensures ∙ ap (λ n. value_at n c.args.self.now) c.as_bytes.ensures in
    rw (← absent) c.assign_absent.ensures.refused
