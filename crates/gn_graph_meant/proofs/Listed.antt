-- A list of labels that has each label which has something at a variable.
use Rattle.std.proofs.Common.{◌≡◌, List, [], ◌++◌, Bool, true, false, refl, sym, ◌∙◌, ap}
use Rattle.gn_labels.specs.declared.label.Label.{Label}
use Rattle.gn_rows.specs.declared.variable.Variable.TheVariants.{PublicDeps, Deps, DataDeps}
use Rattle.gn_dependencies.specs.Lists.{has}
use Rattle.gn_dependencies.specs.Shape.{Shape, all_deps}
use Rattle.gn_graph_meant.specs.Laws.{OthersHaveNothing, ItemsAreEnough}

no_deps : (g : Shape) (all : List Label) → OthersHaveNothing g all → (t : Label) → has all t ≡ false → all_deps g t ≡ []
no_deps g all nothing t h = λ i. (nothing t PublicDeps h i ++ nothing t Deps h i) ++ nothing t DataDeps h i

listed_by : (g : Shape) (all : List Label) → OthersHaveNothing g all → (t d : Label) → has (all_deps g t) d ≡ true → (b : Bool) → has all t ≡ b → b ≡ true
listed_by g all nothing t d h true e = refl
listed_by g all nothing t d h false e = ap (λ (z : List Label). has z d) (sym (no_deps g all nothing t e)) ∙ h

pub items_are_enough : ItemsAreEnough
items_are_enough g all nothing t d h = listed_by g all nothing t d h (has all t) refl
