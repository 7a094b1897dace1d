-- The faults of targets as functions of a graph, where it is known which labels have dependencies.
use Rattle.std.specs.Prelude.{ℕ, List, [], ◌∷◌, Option, map, filter, slice_get, is_some, Bool, not, ◌&&◌}
use Rattle.std.specs.declared.cmp.Ordering.{Ordering}
use Rattle.std.specs.List.{flat_map, cons_option}
use Rattle.std.specs.FinMap.{from_entries, entries}
use Rattle.gn_labels.specs.declared.label.Label.{Label}
use Rattle.gn_labels.specs.declared.pattern.Pattern.{Pattern}
use Rattle.gn_labels.specs.Labels.{label_order}
use Rattle.gn_rows.specs.declared.variable.Variable.TheVariants.{Pool}
use Rattle.gn_faults.specs.declared.code.Code.{Code}
use Rattle.gn_faults.specs.declared.code.Code.TheVariants.{Unresolved, WrongKind, Cycle, Invisible, TestOnly, AssertNoDeps}
use Rattle.gn_faults.specs.declared.fault.Fault.{Fault}
use Rattle.gn_dependencies.specs.Shape.{Shape, all_deps}
use Rattle.gn_dependencies.specs.Configurations.{own_configs}
use Rattle.gn_chains.specs.declared.kinds.Walk.TheVariants.{Targets}
use Rattle.gn_chains.specs.Walking.{met}
use Rattle.gn_rules.specs.Rules.{is_matched, names_target, names_config, names_pool, is_missing, is_foreign, hides, is_for_tests}
use Rattle.gn_graph_faults.specs.Faults.{Facts, Finding, finding, named_by, told_of, finding_order}
use Rattle.gn_graph_meant.specs.Ways.{shortest_path_in}

-- these in an order, each once
abbrev pub in_order : {A : Type 0} → (A → A → Ordering) → List A → List A
in_order R xs = map (λ e. e.0) (entries (from_entries {X = Unit {0}} {R = R} (map (λ x. (x, tt)) xs)))

-- What mustn't be reached

-- the dependencies that are targets and no executables
abbrev pub targets_met : Shape → Label → List Label
targets_met g t = met Targets g (all_deps g t)

-- a pattern of the target matches the label, and dependencies lead to it through no executable
abbrev pub is_forbidden : List Label → Shape → (Label → List Pattern) → Label → Label → Bool
is_forbidden all g forbidden t q = is_matched (forbidden t) q && is_some (shortest_path_in all (targets_met g) t q)

-- the first in label order of the targets that a target mustn't reach, where only these labels have dependencies
unfoldable pub forbidden_in : List Label → List ℕ → Shape → (Label → List Pattern) → Label → Option Label
forbidden_in all default g forbidden t = slice_get (in_order (label_order default) (filter (is_forbidden all g forbidden t) (flat_map (targets_met g) all))) 0

-- The faults of targets

-- a fault for each of the labels
abbrev pub each_of : Code → List Label → List Finding
each_of code labels = map (λ d. finding code (d ∷ [])) labels

-- the dependencies that only targets for tests may have
abbrev pub wants_tests : Facts → Label → Label → Bool
wants_tests g t d = not (g.testonly t) && is_for_tests g.shape g.testonly d

-- the faults of a target, one kind of them after the other
abbrev pub parts_in : List Label → Facts → Label → List (List Finding)
parts_in all g t =
    each_of Unresolved (filter (is_missing g.shape) (named_by g.shape t))
    ∷ each_of WrongKind (filter (is_foreign names_target g.shape) (all_deps g.shape t))
    ∷ each_of WrongKind (filter (is_foreign names_config g.shape) (own_configs g.shape t))
    ∷ each_of WrongKind (filter (is_foreign names_pool g.shape) (g.shape.lists t Pool))
    ∷ map (finding Cycle) (cons_option (shortest_path_in all (all_deps g.shape) t t) [])
    ∷ each_of Invisible (filter (hides names_target g.shape g.visibility t) (all_deps g.shape t))
    ∷ each_of Invisible (filter (hides names_config g.shape g.visibility t) (own_configs g.shape t))
    ∷ each_of TestOnly (filter (wants_tests g t) (all_deps g.shape t))
    ∷ each_of AssertNoDeps (cons_option (forbidden_in all g.default g.shape g.forbidden t) [])
    ∷ []

-- what is told of a target, in the order of its faults and each once, where only these labels have dependencies
unfoldable pub faults_in : List Label → Facts → Label → List Fault
faults_in all g t = map (told_of g t) (in_order (finding_order g.default) (flat_map (λ part. part) (parts_in all g t)))

-- the first that is told of several targets
unfoldable pub least_fault_in : List Label → Facts → List Label → Option Fault
least_fault_in all g ts = slice_get (flat_map (faults_in all g) ts) 0
