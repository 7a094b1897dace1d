-- The actions and copies to which dependencies lead, joined one dependency after the other.
use Rattle.std.proofs.Common.{◌≡◌, ℕ, List, [], ◌∷◌, ◌++◌, Bool, true, false, ◌||◌, cond, filter, append-nil, refl, sym, ◌∙◌, ap}
use Rattle.std.specs.Prelude.{if◌then◌else◌}
use Rattle.std.specs.List.{flat_map}
use Rattle.gn_labels.specs.declared.label.Label.{Label}
use Rattle.gn_dependencies.specs.Lists.{same_label, has, added}
use Rattle.gn_dependencies.specs.Shape.{near}
use Rattle.gn_dependencies.proofs.Has.{or_false, has-added}
use Rattle.gn_dependencies.proofs.Joins.{filter_more, filter_less}
use Rattle.gn_dependencies.proofs.Kept.{has-append}
use Rattle.gn_graph_faults.specs.Order.{AreInOrder}
use Rattle.gn_items.specs.declared.item.Item.{Item}
use Rattle.gn_labelled.specs.Graphs.{shape_of}
use Rattle.gn_resolved_meant.specs.Reached.{is_hard, hard_of}
use Rattle.gn_resolved_meant.specs.Laws.{hard_from}
use Rattle.gn_resolve.specs.declared.table.Resolved.{Resolved}
use Rattle.gn_resolve.specs.Table.{hard_at, hard_along}

pub one_more : (p : Label → Bool) (out new : List Label) (x : Label) → p x ≡ true → new ≡ (if has out x then out else out ++ x ∷ []) → new ≡ added out (filter p (x ∷ []))
one_more p out new x t h = h ∙ sym (append-nil (cond (has out x) out (out ++ x ∷ []))) ∙ sym (filter_more p out x [] t)

pub none_more : (p : Label → Bool) (out : List Label) (x : Label) → p x ≡ false → out ≡ added out (filter p (x ∷ []))
none_more p out x f = sym (append-nil out) ∙ sym (filter_less p out x [] f)

module _ (items : List Item) (r : Resolved) where
  -- joined one after the other or list by list, the same are there
  or_swap : (a b c d : Bool) → ((a || b) || (c || d)) ≡ ((a || c) || (b || d))
  or_swap true b c d = refl
  or_swap false true true d = refl
  or_swap false true false d = refl
  or_swap false false c d = refl

  head : (x : Label) (xs : List Label) (q : Label) → has (hard_of (shape_of items) (x ∷ xs)) q ≡ (has (hard_of (shape_of items) (x ∷ [])) q || has (hard_of (shape_of items) xs) q)
  head x xs q = by (is_hard ((shape_of items).kind x))
    where
      by : (b : Bool) → has (cond b (x ∷ hard_of (shape_of items) xs) (hard_of (shape_of items) xs)) q ≡ (has (cond b (x ∷ []) []) q || has (hard_of (shape_of items) xs) q)
      by true = ap (λ b. b || has (hard_of (shape_of items) xs) q) (sym (or_false (same_label q x)))
      by false = refl

  joined_has : (xs : List Label) (q : Label) → has (flat_map (hard_along items r) xs) q ≡ has (hard_of (shape_of items) xs ++ flat_map (hard_at r) xs) q
  joined_has [] q = refl
  joined_has (x ∷ xs) q =
      let g = shape_of items in
      has-append (hard_along items r x) (flat_map (hard_along items r) xs) q
      ∙ ap (λ b. b || has (flat_map (hard_along items r) xs) q) (has-append (hard_of g (x ∷ [])) (hard_at r x) q)
      ∙ ap (λ b. (has (hard_of g (x ∷ [])) q || has (hard_at r x) q) || b) (joined_has xs q ∙ has-append (hard_of g xs) (flat_map (hard_at r) xs) q)
      ∙ or_swap (has (hard_of g (x ∷ [])) q) (has (hard_at r x) q) (has (hard_of g xs) q) (has (flat_map (hard_at r) xs) q)
      ∙ ap (λ b. b || (has (hard_at r x) q || has (flat_map (hard_at r) xs) q)) (sym (head x xs q))
      ∙ ap (λ b. has (hard_of g (x ∷ xs)) q || b) (sym (has-append (hard_at r x) (flat_map (hard_at r) xs) q))
      ∙ sym (has-append (hard_of g (x ∷ xs)) (flat_map (hard_at r) (x ∷ xs)) q)

  -- so they are put in the same order
  pub in_order_along : (default : List ℕ) (t : Label) (xs ys : List Label) → xs ≡ added [] (flat_map (hard_along items r) (near (shape_of items) t)) → AreInOrder default xs ys
      → AreInOrder default (hard_from (shape_of items) (hard_at r) t) ys
  in_order_along default t xs ys e is = record {
    rises = is.rises;
    same = λ q.
        is.same q ∙ ap (λ (z : List Label). has z q) e ∙ has-added [] (flat_map (hard_along items r) (near (shape_of items) t)) q ∙ joined_has (near (shape_of items) t) q;
  }
