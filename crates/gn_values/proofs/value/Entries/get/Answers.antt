use Rattle.std.proofs.Common.{ℕ, List, Some, refl, sym, ap, ◌∙◌, subst}
use Rattle.std.specs.Option.{ok_or}
use Rattle.gn_values.specs.Val.{Val, IsSortedByName}
use Rattle.gn_values.specs.Operators.{value_at}
use Rattle.gn_values.specs.View.{val_of}
use Rattle.gn_values.specs.declared.error.ValueError.TheVariants.{Undefined}
use Rattle.gn_value_model.proofs.Items.{entries_of-binds}
use Rattle.gn_values.proofs.Meanings.{element_of-scope}
use Rattle.gn_values.proofs.Sorted.{value_at_place, no_value_at_place}
use Rattle.gn_values.proofs.value.Entries.get.Goals as goal

pub returns-in-Ok-clause-value : goal.returns-in-Ok-clause-value
returns-in-Ok-clause-value c =
    let same = c.as_slice-entries.ensures.value in
    let sorted = subst (λ (bs : List (List ℕ × Val)). IsSortedByName bs) (sym same) c.as_slice-entries.ensures.limits.sorted in
    ap (λ e. Some (val_of e.value)) (sym c.index-entries-at.is) ∙ value_at_place _ _ _ _ _ _ same refl sorted c.in-Ok.ensures c.index-entries-at.is

pub returns-in-Ok-clause-entry : goal.returns-in-Ok-clause-entry
returns-in-Ok-clause-entry c =
    returns-in-Ok-clause-value c ∙ ap (value_at c.args.name.now) (sym (entries_of-binds c.args.self.now))

pub returns-in-Ok-clause-element : goal.returns-in-Ok-clause-element
returns-in-Ok-clause-element c =
    ap (λ o. ok_or o Undefined) (returns-in-Ok-clause-value c) ∙ sym (element_of-scope c.args.self.now c.args.name.now)

pub returns-in-Err-clause-value : goal.returns-in-Err-clause-value
returns-in-Err-clause-value c =
    let same = c.as_slice-entries.ensures.value in
    let sorted = subst (λ (bs : List (List ℕ × Val)). IsSortedByName bs) (sym same) c.as_slice-entries.ensures.limits.sorted in
    no_value_at_place _ _ _ _ _ same refl sorted c.in-Err.ensures

pub returns-in-Err-clause-entry : goal.returns-in-Err-clause-entry
returns-in-Err-clause-entry c =
    returns-in-Err-clause-value c ∙ ap (value_at c.args.name.now) (sym (entries_of-binds c.args.self.now))

pub returns-in-Err-clause-element : goal.returns-in-Err-clause-element
returns-in-Err-clause-element c =
    ap (λ o. ok_or o Undefined) (returns-in-Err-clause-value c) ∙ sym (element_of-scope c.args.self.now c.args.name.now)
