-- Where the items stand that items depend on.
use Rattle.std.specs.Prelude.{◌≡◌, ℕ, List, [], Option, Some, None, map, slice_get}
use Rattle.gn_labels.specs.declared.label.Label.{Label}
use Rattle.gn_items.specs.declared.item.Item.{Item}
use Rattle.gn_labelled.specs.Index.{place_of}
use Rattle.gn_build_faults.specs.Settling.{dependencies_at}
use Rattle.gn_build_faults.specs.declared.links.Links.{Links}

-- the places of the items that have the labels
abbrev pub places_of : List Item → List Label → List (Option ℕ)
places_of items labels = map (λ (label : Label). place_of label items) labels

-- the places that links tell
abbrev pub links_in : List Links → List (List (Option ℕ))
links_in links = map (λ (l : Links). l.places.items) links

-- those of the dependencies of an item
abbrev pub item_links : List Item → Item → List (Option ℕ)
item_links items item = places_of items (dependencies_at (Some item))

-- the links tell of each item the places of its dependencies
abbrev pub AreLinks : List Item → List Links → Type 0
AreLinks items links = links_in links ≡ map (item_links items) items

abbrev pub or_none : Option (List (Option ℕ)) → List (Option ℕ)
or_none None = []
or_none (Some places) = places

-- the places of the dependencies of the item at a place; none where there is no item
abbrev pub links_at : List (List (Option ℕ)) → Option ℕ → List (Option ℕ)
links_at links None = []
links_at links (Some place) = or_none (slice_get links place)
