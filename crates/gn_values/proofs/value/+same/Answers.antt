use Rattle.std.proofs.Common.{arith, sym, ap, ◌∙◌, refl, true, false, ◌≡◌}
use Rattle.gn_values.specs.View.{val_of, entry_of}
use Rattle.gn_values.specs.Val.{vlist, vscope, vals_of, binds_of}
use Rattle.gn_basics.proofs.Lists.{equal_more, unequal_at}
use Rattle.gn_value_model.proofs.Items.{same_list, same_scope}
use Rattle.gn_values.proofs.value.+same.Goals as goal
use Rattle.gn_values.proofs.Falling.{item_falls, entry_falls}

pub Items::same-loop-i-preserved : goal.Items::same-loop-i-preserved
Items::same-loop-i-preserved t c = equal_more val_of _ _ _ _ _ (omega arith) (omega arith) c.loop-i.invariant c.index-mine-i.is c.index-others-i.is (c.if-not-same.ensures.0 refl)

pub Items::same-returns-then-not-same : goal.Items::same-returns-then-not-same
Items::same-returns-then-not-same t c =
    (λ h. absurd (let f : false ≡ true = h in cc), λ e. c.if-not-same.ensures.1 (unequal_at val_of _ _ _ _ _ (omega arith) (omega arith) c.index-mine-i.is c.index-others-i.is (c.as_slice-mine.ensures.value ∙ e ∙ sym c.as_slice-others.ensures.value)))

pub Entries::same-loop-i-preserved : goal.Entries::same-loop-i-preserved
Entries::same-loop-i-preserved t c = equal_more entry_of _ _ _ _ _ (omega arith) (omega arith) c.loop-i.invariant c.index-mine-i.is c.index-others-i.is (c.if-not-same.ensures.0 refl)

pub Entries::same-returns-then-not-same : goal.Entries::same-returns-then-not-same
Entries::same-returns-then-not-same t c =
    (λ h. absurd (let f : false ≡ true = h in cc), λ e. c.if-not-same.ensures.1 (unequal_at entry_of _ _ _ _ _ (omega arith) (omega arith) c.index-mine-i.is c.index-others-i.is (c.as_slice-mine.ensures.value ∙ e ∙ sym c.as_slice-others.ensures.value)))

pub Value::same-returns-in-List-List : goal.Value::same-returns-in-List-List
Value::same-returns-in-List-List t c =
    (λ h. ap val_of c.in-List-List.is-0 ∙ ap (λ l. vlist (vals_of l)) (c.same.ensures.0 h) ∙ sym (ap val_of c.in-List-List.is-1), λ e. c.same.ensures.1 (same_list _ _ (sym (ap val_of c.in-List-List.is-0) ∙ e ∙ ap val_of c.in-List-List.is-1)))

pub Value::same-returns-in-Scope-Scope : goal.Value::same-returns-in-Scope-Scope
Value::same-returns-in-Scope-Scope t c =
    (λ h. ap val_of c.in-Scope-Scope.is-0 ∙ ap (λ l. vscope (binds_of l)) (c.same-in-Scope-Scope.ensures.0 h) ∙ sym (ap val_of c.in-Scope-Scope.is-1), λ e. c.same-in-Scope-Scope.ensures.1 (same_scope _ _ (sym (ap val_of c.in-Scope-Scope.is-0) ∙ e ∙ ap val_of c.in-Scope-Scope.is-1)))

pub Items::same-same-requires : goal.Items::same-same-requires
Items::same-same-requires t c =
    (omega (arith, c.decreases, item_falls _ _ _ _ c.as_slice-mine.ensures.value c.loop-i-test.true c.index-mine-i.is), tt)

pub Entries::same-same-requires : goal.Entries::same-same-requires
Entries::same-same-requires t c =
    (omega (arith, c.decreases, entry_falls _ _ _ _ c.as_slice-mine.ensures.value c.loop-i-test.true c.index-mine-i.is), tt)
