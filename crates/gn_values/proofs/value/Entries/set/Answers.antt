use Rattle.std.proofs.Common.{◌≡◌, ◌<◌, ◌+◌, max, sym, ap, ◌∙◌, arith, rules}
use Rattle.gn_values.specs.Val.{depth_of, scope_depth}
use Rattle.gn_values.specs.Limits.{max_depth}
use Rattle.gn_values.specs.Shared.{parts}
use Rattle.gn_values.specs.View.{val_of, entries_in, KeepsEntries}
use Rattle.gn_values.proofs.Setting.{keeps_new, keeps_replaced, scope_fits-scope, too_deep}
use Rattle.gn_values.proofs.value.Entries.set.Goals as goal

pub returns-then-depth-ge-MAX_DEPTH-clause-too_long : goal.returns-then-depth-ge-MAX_DEPTH-clause-too_long
returns-then-depth-ge-MAX_DEPTH-clause-too_long c = λ _.
    too_deep c.args.self.now c.args.name (val_of c.args.value) (omega (arith, c.depth.ensures.value))

pub invariant_of-self-then-added : goal.invariant_of-self-then-added
invariant_of-self-then-added c =
    let within : depth_of (val_of c.args.value) < max_depth = omega (arith, c.depth.ensures.value) in
    let deeper : c.max-depth.result ≡ max c.self.inside.depth (depth_of (val_of c.args.value) + 1) = search rules in
    keeps_new _ _ _ (val_of c.args.value) _ _ c.self.invariant c.in_ok-added.ensures.ok (sym c.in_ok-added.ensures.added ∙ c.if-added.true) within deeper

pub returns-then-added-clause-fits : goal.returns-then-added-clause-fits
returns-then-added-clause-fits c =
    let within : depth_of (val_of c.args.value) < max_depth = omega (arith, c.depth.ensures.value) in
    let deeper : c.max-depth.result ≡ max c.self.inside.depth (depth_of (val_of c.args.value) + 1) = search rules in
    let kept : KeepsEntries (entries_in (parts c.set_shared.new.entries)) c.max-depth.result =
    keeps_new _ _ _ (val_of c.args.value) _ _ c.self.invariant c.in_ok-added.ensures.ok (sym c.in_ok-added.ensures.added ∙ c.if-added.true) within deeper in
    scope_fits-scope _ kept.limits

pub invariant_of-self-2 : goal.invariant_of-self-2
invariant_of-self-2 c =
    let within : depth_of (val_of c.args.value) < max_depth = omega (arith, c.depth.ensures.value) in
    keeps_replaced _ _ _ (val_of c.args.value) _ _ c.self.invariant c.in_ok-added.ensures.ok within
    (c.depth_of_entries-self-inside.ensures ∙ ap (λ es. scope_depth (entries_in es)) c.as_slice.ensures)

pub returns-clause-fits : goal.returns-clause-fits
returns-clause-fits c =
    let within : depth_of (val_of c.args.value) < max_depth = omega (arith, c.depth.ensures.value) in
    let kept : KeepsEntries (entries_in (parts c.set_shared.new.entries)) c.depth_of_entries-self-inside.result =
    keeps_replaced _ _ _ (val_of c.args.value) _ _ c.self.invariant c.in_ok-added.ensures.ok within
    (c.depth_of_entries-self-inside.ensures ∙ ap (λ es. scope_depth (entries_in es)) c.as_slice.ensures) in
    scope_fits-scope _ kept.limits
