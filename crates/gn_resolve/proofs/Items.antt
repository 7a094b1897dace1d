-- What items are found, and which labels have dependencies.
use Rattle.std.proofs.Common.{◌≡◌, List, [], ◌∷◌, ◌++◌, Bool, true, false, ◌||◌, cond, Option, Some, None, refl, sym, ◌∙◌, ap, true≢false}
use Rattle.gn_labels.specs.declared.label.Label.{Label}
use Rattle.gn_rows.specs.declared.variable.Variable.TheVariants.{PublicDeps, Deps, DataDeps}
use Rattle.gn_dependencies.specs.Lists.{has}
use Rattle.gn_dependencies.specs.Shape.{all_deps}
use Rattle.gn_dependencies.specs.Cycles.{OnlyThese}
use Rattle.gn_dependencies.proofs.Same.{same}
use Rattle.gn_dependencies.proofs.At.{one_there}
use Rattle.gn_items.specs.declared.item.Item.{Item}
use Rattle.gn_items.specs.Effects.{same_label, item_at}
use Rattle.gn_labelled.specs.Graphs.{shape_of, labels_at}
use Rattle.gn_labelled.specs.Listed.{same_tie}
use Rattle.gn_resolve.specs.Resolved.{labels_in}

found_by : (q : Label) (y : Item) (rest : Option Item) (x : Item) (b : Bool) → same_label q y.label ≡ b → cond b (Some y) rest ≡ Some x → (rest ≡ Some x → x.label ≡ q) → x.label ≡ q
found_by q y rest x true e i onward = ap (λ (z : Item). z.label) (sym (one_there y x i)) ∙ sym (same q y.label (sym (same_tie q y.label) ∙ e))
found_by q y rest x false e i onward = onward i

-- the item that is found has the label
pub label_found : (q : Label) (items : List Item) (x : Item) → item_at q items ≡ Some x → x.label ≡ q
label_found q [] x h = absurd (cc h)
label_found q (y ∷ items) x h = found_by q y (item_at q items) x (same_label q y.label) refl h (label_found q items x)

lacked_by : (b : Bool) (x : Item) (rest : Option Item) (c : Bool) → (b || c) ≡ false → (c ≡ false → rest ≡ None) → cond b (Some x) rest ≡ None
lacked_by true x rest c h onward = absurd (cc h)
lacked_by false x rest c h onward = onward h

lacked : (q : Label) (items : List Item) → has (labels_in items) q ≡ false → item_at q items ≡ None
lacked q [] h = refl
lacked q (x ∷ items) h =
    lacked_by (same_label q x.label) x (item_at q items) (has (labels_in items) q) (ap (λ b. b || has (labels_in items) q) (same_tie q x.label) ∙ h) (lacked q items)

-- only the labels of items have dependencies
pub only_items : (items : List Item) → OnlyThese (shape_of items) (labels_in items)
only_items items t d h = by (has (labels_in items) t) refl
  where
    by : (b : Bool) → has (labels_in items) t ≡ b → has (labels_in items) t ≡ true
    by true e = e
    by false e =
        let none : all_deps (shape_of items) t ≡ [] = ap (λ item. (labels_at item PublicDeps ++ labels_at item Deps) ++ labels_at item DataDeps) (lacked t items e) in
        absurd (true≢false (sym h ∙ ap (λ (ls : List Label). has ls d) none))
