-- The faults of a target: what stands in the graph where it has one, what a fault tells, and the order in which they are told.
use Rattle.std.specs.Prelude.{◌≡◌, ◌↔◌, ℕ, List, [], ◌∷◌, ◌++◌, Option, Bool, true, false, map, if◌then◌else◌}
use Rattle.std.specs.declared.cmp.Ordering.{Ordering}
use Rattle.std.specs.Ordering.{nat_cmp, ordering_then}
use Rattle.std.specs.Cmp.Lexicographic.{slice_cmp}
use Rattle.std.specs.List.{Contains}
use Rattle.std.specs.List.Sorted.{IsStrictlySortedBy}
use Rattle.std.specs.Str.{bytes_eq}
use Rattle.gn_paths.specs.declared.place.Place.{Place}
use Rattle.gn_labels.specs.declared.label.Label.{Label}
use Rattle.gn_labels.specs.declared.pattern.Pattern.{Pattern}
use Rattle.gn_labels.specs.Labels.{printed, label_order, is_before}
use Rattle.gn_rows.specs.declared.variable.Variable.TheVariants.{Pool}
use Rattle.gn_faults.specs.declared.code.Code.{Code}
use Rattle.gn_faults.specs.declared.code.Code.TheVariants.{Unresolved, WrongKind, Cycle, Invisible, TestOnly, AssertNoDeps}
use Rattle.gn_faults.specs.declared.stage.Stage.TheVariants.{Graph}
use Rattle.gn_faults.specs.declared.fault.Fault.{Fault}
use Rattle.gn_faults.specs.Numbers.{code_number}
use Rattle.gn_dependencies.specs.Lists.{has}
use Rattle.gn_dependencies.specs.Shape.{Shape, Path, all_deps}
use Rattle.gn_dependencies.specs.Configurations.{own_configs}
use Rattle.gn_cycles.specs.Shortest.{IsShortest}
use Rattle.gn_rules.specs.Rules.{names_target, names_config, names_pool, is_missing, is_foreign, hides, is_for_tests, MustNotReach}

-- What the rules ask of a graph, and where the calls stand that define its items
pub record Facts : Type 0 where
  pub default : List ℕ
  pub shape : Shape
  pub visibility : Label → Option (List Pattern)
  pub testonly : Label → Bool
  pub forbidden : Label → List Pattern
  pub places : Label → Option Place

abbrev pub facts_of : List ℕ → Shape → (Label → Option (List Pattern)) → (Label → Bool) → (Label → List Pattern) → (Label → Option Place) → Facts
facts_of default shape visibility testonly forbidden places =
    record { default = default; shape = shape; visibility = visibility; testonly = testonly; forbidden = forbidden; places = places }

-- what a target names: its dependencies, its own configurations, its pool
abbrev pub named_by : Shape → Label → List Label
named_by g t = all_deps g t ++ own_configs g t ++ g.lists t Pool

-- A target has a fault of a code, with the labels that the fault shows behind the target's own
pub data HasFault (g : Facts) (t : Label) : Code → List Label → Type 0 where
  -- it names a label that no item has
  names_nothing : (d : Label) → has (named_by g.shape t) d ≡ true → is_missing g.shape d ≡ true → HasFault g t Unresolved (d ∷ [])
  -- it names an item of another kind: as a dependency what isn't a target, as a configuration what isn't one, as its pool what isn't a pool
  depends_on_another : (d : Label) → has (all_deps g.shape t) d ≡ true → is_foreign names_target g.shape d ≡ true → HasFault g t WrongKind (d ∷ [])
  applies_another : (d : Label) → has (own_configs g.shape t) d ≡ true → is_foreign names_config g.shape d ≡ true → HasFault g t WrongKind (d ∷ [])
  pools_another : (d : Label) → has (g.shape.lists t Pool) d ≡ true → is_foreign names_pool g.shape d ≡ true → HasFault g t WrongKind (d ∷ [])
  -- it lies on a cycle of dependencies: the shortest is shown, and of those that are equally long the first in dependency order
  lies_on_cycle : (p : Path) → IsShortest (all_deps g.shape) t t p → HasFault g t Cycle p
  -- a target on which it depends, or a configuration of its own, isn't visible to it
  depends_on_hidden : (d : Label) → has (all_deps g.shape t) d ≡ true → hides names_target g.shape g.visibility t d ≡ true → HasFault g t Invisible (d ∷ [])
  applies_hidden : (d : Label) → has (own_configs g.shape t) d ≡ true → hides names_config g.shape g.visibility t d ≡ true → HasFault g t Invisible (d ∷ [])
  -- it isn't for tests alone, and depends on a target that is
  depends_on_tests : (d : Label) → g.testonly t ≡ false → has (all_deps g.shape t) d ≡ true → is_for_tests g.shape g.testonly d ≡ true → HasFault g t TestOnly (d ∷ [])
  -- it reaches a target that it mustn't: the first of these in label order is shown
  reaches_forbidden : (d : Label) → MustNotReach g.shape g.forbidden t d → ((y : Label) → MustNotReach g.shape g.forbidden t y → is_before g.default y d ≡ false)
      → HasFault g t AssertNoDeps (d ∷ [])

-- the toolchain of a fault: the empty text stands for the default one
abbrev pub toolchain_told : List ℕ → List ℕ → List ℕ
toolchain_told default toolchain = if bytes_eq toolchain default then [] else toolchain

-- what is told of a target: the fault stands where the call stands that defines the target, under its toolchain, and shows the target and then these labels
abbrev pub fault_told : List ℕ → Option Place → Label → Code → List Label → Fault
fault_told default place t code others = record {
  stage = Graph;
  place = place;
  toolchain = toolchain_told default t.toolchain;
  code = code;
  detail = map (printed default) (t ∷ others);
}

-- a fault that a target has, by its code and its labels
pub record Finding : Type 0 where
  pub code : Code
  pub others : List Label

abbrev pub finding : Code → List Label → Finding
finding code others = record { code = code; others = others }

abbrev pub told_of : Facts → Label → Finding → Fault
told_of g t f = fault_told g.default (g.places t) t f.code f.others

-- the faults of a target go by code, and those of one code by their labels in label order
abbrev pub finding_order : List ℕ → Finding → Finding → Ordering
finding_order default a b = ordering_then (nat_cmp (code_number a.code) (code_number b.code)) (slice_cmp (label_order default) a.others b.others)

-- just the faults that a target has are told, in their order and each once
pub record AreFaults (g : Facts) (t : Label) (faults : List Fault) : Type 0 where
  pub findings : List Finding
  pub rises : IsStrictlySortedBy (finding_order g.default) findings
  pub each : (f : Finding) → Contains findings f ↔ HasFault g t f.code f.others
  pub told : faults ≡ map (told_of g t) findings
