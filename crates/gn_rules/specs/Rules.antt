-- What the rules of a graph forbid.
use Rattle.std.specs.Prelude.{◌≡◌, ℕ, List, [], ◌++◌, Option, Some, None, Bool, true, false, ◌&&◌, not, filter, cond, is_some, is_none}
use Rattle.std.specs.List.{list_any}
use Rattle.gn_labels.specs.declared.label.Label.{Label}
use Rattle.gn_labels.specs.declared.pattern.Pattern.{Pattern}
use Rattle.gn_labels.specs.Labels.{is_before}
use Rattle.gn_labels.specs.Patterns.{matches}
use Rattle.gn_rows.specs.declared.kinds.ItemKind.{ItemKind}
use Rattle.gn_rows.specs.declared.kinds.ItemKind.TheVariants as kinds
use Rattle.gn_rows.specs.declared.variable.Variable.TheVariants as variables
use Rattle.gn_rows.specs.Names.{is_target}
use Rattle.gn_dependencies.specs.Shape.{Shape, all_deps}
use Rattle.gn_dependencies.specs.Configurations.{own_configs}
use Rattle.gn_chains.specs.declared.kinds.Walk.TheVariants.{Targets}
use Rattle.gn_chains.specs.Walking.{IsMetBy}

-- one of the patterns matches the label
abbrev pub is_matched : List Pattern → Label → Bool
is_matched patterns label = list_any (λ pattern. matches pattern label) patterns

-- an item is visible to a label where a pattern of its `visibility` matches it. Where that isn't set it is to all, and an empty list matches nothing
abbrev pub is_visible : Option (List Pattern) → Label → Bool
is_visible None label = true
is_visible (Some patterns) label = is_matched patterns label

-- a label names a target, a configuration, or a pool
abbrev pub names_target : Option ItemKind → Bool
names_target None = false
names_target (Some kind) = is_target kind

abbrev pub names_config : Option ItemKind → Bool
names_config (Some kinds.Config) = true
names_config _ = false

abbrev pub names_pool : Option ItemKind → Bool
names_pool (Some kinds.Pool) = true
names_pool _ = false

abbrev pub hides : (Option ItemKind → Bool) → Shape → (Label → Option (List Pattern)) → Label → Label → Bool
hides names g visibility t d = names (g.kind d) && not (is_visible (visibility d) t)

-- the dependencies of a target that are targets and not visible to it, in dependency order
abbrev pub hidden_targets : Shape → (Label → Option (List Pattern)) → Label → List Label
hidden_targets g visibility t = filter (hides names_target g visibility t) (all_deps g t)

-- its own configurations that are configurations and not visible to it
abbrev pub hidden_configs : Shape → (Label → Option (List Pattern)) → Label → List Label
hidden_configs g visibility t = filter (hides names_config g visibility t) (own_configs g t)

-- the dependencies that are targets for tests alone, of a target that isn't
abbrev pub is_for_tests : Shape → (Label → Bool) → Label → Bool
is_for_tests g testonly d = names_target (g.kind d) && testonly d

abbrev pub testonly_deps : Shape → (Label → Bool) → Label → List Label
testonly_deps g testonly t = cond (testonly t) [] (filter (is_for_tests g testonly) (all_deps g t))

-- the labels that a target names and no item has: dependencies, configurations, its pool
abbrev pub is_missing : Shape → Label → Bool
is_missing g d = is_none (g.kind d)

abbrev pub missing_labels : Shape → Label → List Label
missing_labels g t = filter (is_missing g) (all_deps g t) ++ filter (is_missing g) (own_configs g t) ++ filter (is_missing g) (g.lists t variables.Pool)

-- the labels that it names of items of another kind: dependencies that aren't targets, configurations that aren't configurations, a pool that isn't a pool
abbrev pub is_foreign : (Option ItemKind → Bool) → Shape → Label → Bool
is_foreign names g d = is_some (g.kind d) && not (names (g.kind d))

abbrev pub foreign_labels : Shape → Label → List Label
foreign_labels g t =
    filter (is_foreign names_target g) (all_deps g t) ++ filter (is_foreign names_config g) (own_configs g t) ++ filter (is_foreign names_pool g) (g.lists t variables.Pool)

-- a target mustn't reach another: it isn't an executable, a pattern of `assert_no_deps` matches it, and dependencies lead to it through no executable
abbrev pub MustNotReach : Shape → (Label → List Pattern) → Label → Label → Type 0
MustNotReach g forbidden t q = IsMetBy Targets g t q × (is_matched (forbidden t) q ≡ true)

-- the first in label order of those that it mustn't reach
abbrev pub IsForbiddenTarget : List ℕ → Shape → (Label → List Pattern) → Label → Option Label → Type 0
IsForbiddenTarget default g forbidden t None = (q : Label) → MustNotReach g forbidden t q → ⊥
IsForbiddenTarget default g forbidden t (Some q) = MustNotReach g forbidden t q × ((y : Label) → MustNotReach g forbidden t y → is_before default y q ≡ false)
