use Rattle.std.proofs.Common.{◌≡◌, ◌≤◌, ◌+◌, max, length, arith, rules, ap}
use Rattle.gn_values.specs.Limits.{max_items}
use Rattle.gn_values.specs.View.{vals_in, KeepsItems}
use Rattle.gn_values.proofs.Depths.{keeps_appended}
use Rattle.gn_value_model.proofs.Within.{list_fits-list}
use Rattle.gn_values.proofs.value.Items.append_moved.Goals as goal
use Rattle.gn_values.specs.Shared.{parts}

pub invariant_of-self-2 : goal.invariant_of-self-2
invariant_of-self-2 c =
    let few : length (vals_in (parts c.self.inside.items)) + length (vals_in (parts c.other.inside.items)) ≤ max_items =
    omega (arith, c.len.ensures.value, c.len-2.ensures.value, ap length c.self.view_is, ap length c.other.view_is) in
    let deeper : c.max-self-inside.result ≡ max c.self.inside.depth c.other.inside.depth = search rules in
    keeps_appended _ _ _ _ _ _ c.self.invariant c.other.invariant c.in_ok-append.ensures.ok deeper few

pub returns-clause-fits : goal.returns-clause-fits
returns-clause-fits c =
    let few : length (vals_in (parts c.self.inside.items)) + length (vals_in (parts c.other.inside.items)) ≤ max_items =
    omega (arith, c.len.ensures.value, c.len-2.ensures.value, ap length c.self.view_is, ap length c.other.view_is) in
    let deeper : c.max-self-inside.result ≡ max c.self.inside.depth c.other.inside.depth = search rules in
    let kept : KeepsItems (vals_in (parts c.append.new.self)) c.max-self-inside.result =
    keeps_appended _ _ _ _ _ _ c.self.invariant c.other.invariant c.in_ok-append.ensures.ok deeper few in
    list_fits-list _ kept.limits
