-- Targets that are generated, where they are in label order and have all their dependencies among them.
use Rattle.std.specs.Prelude.{ℕ, List, [], ◌∷◌, Bool, true, false, ◌&&◌, Option, Some, None, slice_get, slice_set}
use Rattle.std.specs.List.{list_all}
use Rattle.gn_labels.specs.declared.label.Label.{Label}
use Rattle.gn_labels.specs.Labels.{is_before}
use Rattle.gn_items.specs.declared.item.Item.{Item}
use Rattle.gn_items.specs.Effects.{item_at}
use Rattle.gn_labelled.specs.Graphs.{or_false}
use Rattle.gn_labelled.specs.Index.{place_of}
use Rattle.gn_build_faults.specs.Settling.{dependencies_at}
use Rattle.gn_build_faults.specs.Links.{links_at}

-- each label comes before the next one in label order
abbrev pub rises_from : (default : List ℕ) → Label → List Label → Bool
rises_from default x [] = true
rises_from default x (y ∷ ys) = is_before default x y && rises_from default y ys

abbrev pub rises : (default : List ℕ) → List Label → Bool
rises default [] = true
rises default (x ∷ xs) = rises_from default x xs

-- marks at the places of the items of labels
abbrev pub with_mark : List Bool → Option ℕ → List Bool
with_mark marks None = marks
with_mark marks (Some place) = slice_set marks place true

abbrev pub with_marks : List Item → List Bool → List Label → List Bool
with_marks items marks [] = marks
with_marks items marks (l ∷ ls) = with_marks items (with_mark marks (place_of l items)) ls

-- whether there is an item at a place, and it is marked
abbrev pub has_mark : List Bool → Option ℕ → Bool
has_mark marks None = false
has_mark marks (Some place) = or_false (slice_get marks place)

-- whether all of the labels have items that are marked
abbrev pub have_marks : List Item → List Bool → List Label → Bool
have_marks items marks labels = list_all (λ d. has_mark marks (place_of d items)) labels

-- whether all dependencies of the labels have
abbrev pub are_closed : List Item → List Bool → List Label → Bool
are_closed items marks labels = list_all (λ t. have_marks items marks (dependencies_at (item_at t items))) labels

-- marks at places
abbrev pub with_places : List Bool → List (Option ℕ) → List Bool
with_places marks [] = marks
with_places marks (place ∷ places) = with_places (with_mark marks place) places

-- whether all dependencies of the items at places have marks, by the places of the dependencies of all items
abbrev pub are_linked : List (List (Option ℕ)) → List Bool → List (Option ℕ) → Bool
are_linked links marks places = list_all (λ place. list_all (has_mark marks) (links_at links place)) places

-- the targets, by those that are generated, and by others where these aren't all of them
abbrev pub those_or : List Label → Option (List Label) → List Label
those_or generated None = generated
those_or generated (Some targets) = targets
