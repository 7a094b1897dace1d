-- The targets that dependencies lead to, in label order, where it is known which labels have dependencies.
use Rattle.std.specs.Prelude.{ℕ, List, ◌++◌, map, filter, suc, length, Option, Some, Bool, true, false}
use Rattle.std.specs.List.{flat_map}
use Rattle.gn_labels.specs.declared.label.Label.{Label}
use Rattle.gn_labels.specs.Labels.{label_order}
use Rattle.gn_rows.specs.declared.kinds.ItemKind.{ItemKind}
use Rattle.gn_rows.specs.declared.kinds.ItemKind.TheVariants.{Action, ActionForeach, Copy}
use Rattle.gn_dependencies.specs.Shape.{Shape, near, all_deps, paths, end_from}
use Rattle.gn_graph_meant.specs.Computed.{in_order}

-- the ends of the paths from t, of one edge at least and of no more than one above the number of labels that have dependencies
abbrev pub ends_in : List Label → (Label → List Label) → Label → List Label
ends_in all next t = map (end_from t) (paths next (suc (length all)) t)

-- the labels of a list and all that dependencies lead to from them, those of data too, in label order and each once
unfoldable pub reached_in : List Label → List ℕ → Shape → List Label → List Label
reached_in all default g ts = in_order (label_order default) (ts ++ flat_map (ends_in all (all_deps g)) ts)

-- the kinds whose targets are done before the objects of those that depend on them are built
abbrev pub is_hard : Option ItemKind → Bool
is_hard (Some Action) = true
is_hard (Some ActionForeach) = true
is_hard (Some Copy) = true
is_hard _ = false

-- those of a list that are of these kinds
abbrev pub hard_of : Shape → List Label → List Label
hard_of g labels = filter (λ q. is_hard (g.kind q)) labels

-- the targets of these kinds to which public and private dependencies lead, in label order and each once
unfoldable pub hard_in : List Label → List ℕ → Shape → Label → List Label
hard_in all default g t = in_order (label_order default) (hard_of g (ends_in all (near g) t))
