-- What is kept stays right when one more target is resolved.
use Rattle.std.proofs.Common.{◌≡◌, List, Bool, true, false, cond, Option, Some, IfSome, is_some, refl, sym, ◌∙◌, ap, subst}
use Rattle.gn_labels.specs.declared.label.Label.{Label}
use Rattle.gn_labels.specs.contracts.label.LabelPartialEq.TheImpl.{eq-value}
use Rattle.gn_dependencies.specs.Shape.{all_deps}
use Rattle.gn_dependencies.proofs.Same.{same}
use Rattle.gn_dependencies.proofs.SameLabel.{tie}
use Rattle.gn_dependencies.proofs.Same.{own}
use Rattle.gn_items.specs.declared.item.Item.{Item}
use Rattle.gn_labelled.specs.Graphs.{shape_of}
use Rattle.gn_toolchains.specs.Toolchains.{Surroundings}
use Rattle.gn_resolve.specs.declared.table.Entry.{Entry}
use Rattle.gn_resolve.specs.declared.table.Resolved.{Resolved}
use Rattle.gn_resolve.specs.Table.{entry_in, is_in, AreIn, IsPut}
use Rattle.gn_resolve.specs.Steps.{IsRight, IsHeld, StaysHeld, IsResolved}

module _ (s : Surroundings) (items : List Item) (old new : Resolved) (t : Label) (e : Entry) (put : IsPut old new t e) where
  at : (q : Label) → entry_in new q ≡ cond (eq-value.it t q) (Some e) (entry_in old q)
  at q = put.0 q

  is_same : (q : Label) → eq-value.it t q ≡ true → t ≡ q
  is_same q h = same t q (sym (tie t q) ∙ h)

  kept_by : (b : Bool) (o : Option Entry) → is_some o ≡ true → is_some (cond b (Some e) o) ≡ true
  kept_by true o h = refl
  kept_by false o h = h

  pub kept : (q : Label) → is_in old q ≡ true → is_in new q ≡ true
  kept q h = ap is_some (at q) ∙ kept_by (eq-value.it t q) (entry_in old q) h

  pub there : is_in new t ≡ true
  there = ap is_some (at t) ∙ ap (λ b. is_some (cond b (Some e) (entry_in old t))) (tie t t ∙ own t)

  right_by : (q : Label) (b : Bool) → eq-value.it t q ≡ b → IsRight s items t e → IfSome (entry_in old q) (IsRight s items q) → IfSome (cond b (Some e) (entry_in old q)) (IsRight s items q)
  right_by q true h right o = subst (λ (z : Label). IsRight s items z e) (is_same q h) right
  right_by q false h right o = o

  closed_by : (q : Label) (b : Bool) → eq-value.it t q ≡ b → IsHeld s items old → AreIn old (all_deps (shape_of items) t)
      → is_some (cond b (Some e) (entry_in old q)) ≡ true → AreIn old (all_deps (shape_of items) q)
  closed_by q true h held ready i = subst (λ (z : Label). AreIn old (all_deps (shape_of items) z)) (is_same q h) ready
  closed_by q false h held ready i = held.closed q i

  pub held_with : IsHeld s items old → AreIn old (all_deps (shape_of items) t) → IsRight s items t e → IsHeld s items new
  held_with held ready right = record {
    right = λ q. subst (λ (o : Option Entry). IfSome o (IsRight s items q)) (sym (at q)) (right_by q (eq-value.it t q) refl right (held.right q));
    closed = λ q i d h. kept d (closed_by q (eq-value.it t q) refl held ready (sym (ap is_some (at q)) ∙ i) d h);
  }

-- the target whose label was copied is resolved
pub resolved_with : (s : Surroundings) (items : List Item) (old new : Resolved) (copied t : Label) (e : Entry) → copied ≡ t → IsPut old new copied e → IsHeld s items old
    → AreIn old (all_deps (shape_of items) t) → IsRight s items t e → IsResolved s items t old new
resolved_with s items old new copied t e same put held ready right =
    let it : IsPut old new t e = subst (λ (z : Label). IsPut old new z e) same put in
    record { held = held_with s items old new t e it held ready right; put = (e, it) }

pub stays_held : (old new : Resolved) (t : Label) (e : Entry) → IsPut old new t e → StaysHeld old new t e
stays_held old new t e put s items held ready right = held_with s items old new t e put held ready right
