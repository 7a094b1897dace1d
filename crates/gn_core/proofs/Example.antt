-- A world whose loads see what the default setup left: the laws of layers can be met.
use Rattle.std.proofs.Common.{◌≡◌, ℕ, ◌≤◌, List, [], Option, Some, None, refl, sym, ◌∙◌, ap, inl, arith}
use mathlib.Core.Path.{fun_ext}
use Rattle.gn_faults.specs.declared.fault.Fault.{Fault}
use Rattle.gn_runs.specs.Runs.{is_absent, Answers, Run, leaves, fails, IsTree}
use Rattle.gn_runs.proofs.Trees.{tree_leaves, tree_fails}
use Rattle.gn_items.specs.Effects.{no_effects}
use Rattle.gn_closure.specs.Reach.{Unit_key, Setup, Load, Done}
use Rattle.gn_core.specs.Keys.{Layer, early, usual, Key, Read, Import, Unit_of, Resolve, Answer, Filed, layer_of, unit_in, units, Leaving, UnitLeft}
use Rattle.gn_core.specs.Worlds.{World}
use Rattle.gn_core.specs.Layered.{IsPart, HasLayer, HasBelow, IsLayered}
use Rattle.gn_core.proofs.Based.{units_part}

-- a unit that has no items
abbrev nothing_more : Done → Leaving UnitLeft
nothing_more d = record { value = record { needs = d; beneath = None }; effects = no_effects }

abbrev left : Fault → Option (Option Done) → Run (Leaving UnitLeft)
left fault None = fails fault
left fault (Some None) = fails fault
left fault (Some (Some d)) = leaves (nothing_more d)

abbrev unit_run : Fault → Done → Unit_key → Filed → Answers → Run (Leaving UnitLeft)
unit_run fault d (Setup t) b a = leaves (nothing_more d)
unit_run fault d (Load dir t) b a = left fault (units b (Setup []))

abbrev stage_of : Key → ℕ
stage_of (Read path) = 0
stage_of (Import (early t) path) = 1
stage_of (Import (usual t) path) = 2
stage_of (Unit_of (Setup t)) = 1
stage_of (Unit_of (Load d t)) = 2
stage_of (Resolve l) = 3

abbrev pub example : Fault → Done → World
example fault d = record {
  content = λ path. is_absent;
  paths = [];
  import_run = λ l b path a. fails fault;
  unit_run = unit_run fault d;
  record_of = λ l b. [];
  home = λ t. t;
  stage = stage_of;
}

left_tree : (fault : Fault) (x : Option (Option Done)) → IsTree (λ (a : Answers). left fault x)
left_tree fault None = tree_fails fault
left_tree fault (Some None) = tree_fails fault
left_tree fault (Some (Some d)) = tree_leaves (nothing_more d)

unit_trees : (fault : Fault) (d : Done) (b : Filed) (k : Unit_key) → IsTree (unit_run fault d k b)
unit_trees fault d b (Setup t) = tree_leaves (nothing_more d)
unit_trees fault d b (Load dir t) = left_tree fault (units b (Setup []))

unit_sees : (fault : Fault) (d : Done) (k : Unit_key) (b c : Filed) → HasBelow (example fault d) b (Unit_of k) → HasBelow (example fault d) c (Unit_of k) → unit_run fault d k b ≡ unit_run fault d k c
unit_sees fault d (Setup t) b c has_b has_c = refl
unit_sees fault d (Load dir t) b c has_b has_c =
    fun_ext (λ (a : Answers). ap (λ (x : Option Answer). left fault (unit_in x)) (has_b (Unit_of (Setup [])) (omega arith) ∙ sym (has_c (Unit_of (Setup [])) (omega arith))))

unit_based : (fault : Fault) (d : Done) (k : Unit_key) (b c : Filed) → HasLayer (example fault d) b (layer_of k) → IsPart b c → unit_run fault d k c ≡ unit_run fault d k b
unit_based fault d (Setup t) b c h le = refl
unit_based fault d (Load dir t) b c h le = fun_ext (λ (a : Answers). ap (left fault) (units_part b c le (Setup []) h.0 h.1 ∙ sym h.1))

layer_low : (k : Unit_key) (path : List ℕ) → stage_of (Import (layer_of k) path) ≤ stage_of (Unit_of k)
layer_low (Setup t) path = omega arith
layer_low (Load d t) path = omega arith

layer_stage : (l : Layer) (p q : List ℕ) → stage_of (Import l p) ≡ stage_of (Import l q)
layer_stage (early t) p q = refl
layer_stage (usual t) p q = refl

pub example_layered : (fault : Fault) (d : Done) → IsLayered (example fault d)
example_layered fault d = record {
  is = record {
    projects = λ b l. record { trees = λ path. tree_fails fault; listed = λ path. inl refl; absent = λ path a h. tt };
    imports = λ b l path. tree_fails fault;
    trees = unit_trees fault d;
  };
  imports_see = λ l path b c h g. refl;
  units_see = unit_sees fault d;
  records_see = λ l b c h g. refl;
  one_stage = layer_stage;
  asks_low = layer_low;
  imports_based = λ l path b c h le. refl;
  units_based = unit_based fault d;
  records_based = λ l b c h le. refl;
}
