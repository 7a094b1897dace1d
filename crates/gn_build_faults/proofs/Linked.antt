-- What is said of items by their places.
use Rattle.std.proofs.Common.{◌≡◌, ℕ, suc, length, List, [], ◌∷◌, ◌++◌, Bool, ◌&&◌, Option, Some, None, option_map, map, slice_get, Bor, refl, sym, ◌∙◌, ap, append_assoc}
use Rattle.std.specs.List.{list_all}
use Rattle.std.proofs.lemmas.List.{map-append}
use Rattle.std.proofs.lemmas.List.Folds.{list_all-map}
use Rattle.std.proofs.lemmas.Option.{slice_get-map}
use Rattle.gn_labels.specs.declared.label.Label.{Label}
use Rattle.gn_items.specs.declared.item.Item.{Item}
use Rattle.gn_items.specs.Effects.{item_at}
use Rattle.gn_labelled.specs.Index.{lent, place_of, item_in}
use Rattle.gn_build_faults.specs.Settling.{is_marked, is_settled, dependencies_at}
use Rattle.gn_build_faults.specs.Links.{places_of, item_links, or_none, links_at}
use Rattle.gn_build_faults.specs.Whole.{with_mark, with_marks, with_places, has_mark, have_marks, are_closed, are_linked}
use Rattle.gn_build_faults.proofs.Marked.{placed}

-- references are as many as what is behind them
pub lent_length : (items : List (Bor Item)) → length items ≡ length (lent items)
lent_length [] = refl
lent_length (x ∷ items) = ap suc (lent_length items)

pub map_same : {X : Type 0} (xs : List X) → map (λ (x : X). x) xs ≡ xs
map_same [] = refl
map_same (x ∷ xs) = ap (λ ys. x ∷ ys) (map_same xs)

module _ (items : List Item) where
  -- the places of three lists of labels, one after the other
  pub of_three : (before : List (Option ℕ)) (xs ys zs : List Label)
      → ((before ++ places_of items xs) ++ places_of items ys) ++ places_of items zs ≡ before ++ places_of items ((xs ++ ys) ++ zs)
  of_three before xs ys zs =
      let place = λ (l : Label). place_of l items in
      ap (λ ps. ps ++ map place zs) (append_assoc before (map place xs) (map place ys)) ∙ append_assoc before (map place xs ++ map place ys) (map place zs)
      ∙ sym (ap (λ ps. before ++ ps) (map-append place (xs ++ ys) zs ∙ ap (λ ps. ps ++ map place zs) (map-append place xs ys)))

  -- the links at a place are those of its item
  pub linked : (place : Option ℕ) → links_at (map (item_links items) items) place ≡ places_of items (dependencies_at (item_in items place))
  linked None = refl
  linked (Some n) = ap or_none (slice_get-map (item_links items) items n) ∙ by (slice_get items n)
    where
      by : (r : Option Item) → or_none (option_map (item_links items) r) ≡ places_of items (dependencies_at r)
      by None = refl
      by (Some item) = refl

  linked_label : (t : Label) → links_at (map (item_links items) items) (place_of t items) ≡ places_of items (dependencies_at (item_at t items))
  linked_label t = linked (place_of t items) ∙ ap (λ (r : Option Item). places_of items (dependencies_at r)) (placed t items)

  pub settled_by : (marks : List Bool) (place : ℕ)
      → list_all (is_marked marks) (links_at (map (item_links items) items) (Some place)) ≡ list_all (λ d. is_settled items marks d) (dependencies_at (slice_get items place))
  settled_by marks place =
      ap (list_all (is_marked marks)) (linked (Some place)) ∙ list_all-map (is_marked marks) (λ (l : Label). place_of l items) (dependencies_at (slice_get items place))

  pub marked_by : (marks : List Bool) (labels : List Label) → with_places marks (places_of items labels) ≡ with_marks items marks labels
  marked_by marks [] = refl
  marked_by marks (l ∷ labels) = marked_by (with_mark marks (place_of l items)) labels

  pub closed_by : (marks : List Bool) (labels : List Label) → are_linked (map (item_links items) items) marks (places_of items labels) ≡ are_closed items marks labels
  closed_by marks [] = refl
  closed_by marks (t ∷ labels) = λ i. here i && closed_by marks labels i
    where
      here : list_all (has_mark marks) (links_at (map (item_links items) items) (place_of t items)) ≡ have_marks items marks (dependencies_at (item_at t items))
      here = ap (list_all (has_mark marks)) (linked_label t) ∙ list_all-map (has_mark marks) (λ (l : Label). place_of l items) (dependencies_at (item_at t items))
