-- A list that is written out is the list of the values of its items.
use Rattle.std.proofs.Common.{◌≡◌, ℕ, List, [], ◌∷◌, ◌++◌, append_assoc, append-nil, refl, sym, ap, ◌∙◌}
use Rattle.gn_tree.specs.Tree.{ExprTrees, no_exprs, expr_then}
use Rattle.gn_values.specs.Val.{Val}
use Rattle.gn_items.specs.Effects.{Effects}
use Rattle.gn_runs.specs.Runs.{Question, End, ended, wrong, spoiled, needs, Run}
use Rattle.gn_environment.specs.Environment.{Environment}
use Rattle.gn_meaning.specs.Steps.{Left, Steps, World, deeper, onward, then_do, ends}
use Rattle.gn_meaning.specs.Words.{list_runs}
use Rattle.gn_meaning.specs.Meaning.{expr_runs, values_run}
use Rattle.gn_meaning.specs.BlockLaws.{exprs_in, all_of, ListsAreTheirValues}

module _ {A B C : Type 0} (f : A → Environment → Effects → Run (Left B)) (g : B → Environment → Effects → Run (Left C)) where
  onward_twice : (end : End (Left A)) (asked : List Question) → then_do (onward end asked f) g ≡ onward end asked (λ x env out. then_do (f x env out) g)
  onward_twice (ended l) asked = refl
  onward_twice (wrong fault) asked = refl
  onward_twice (spoiled path place) asked = refl
  onward_twice (needs question place) asked = refl

  do_twice : (m : Run (Left A)) → then_do (then_do m f) g ≡ then_do m (λ x env out. then_do (f x env out) g)
  do_twice m = onward_twice m.end m.asked

do_same : {A B : Type 0} (m : Run (Left A)) (f g : A → Environment → Effects → Run (Left B)) → ((x : A) (env : Environment) (out : Effects) → f x env out ≡ g x env out) → then_do m f ≡ then_do m g
do_same {A} {B} m f g h = λ i. then_do m (λ x env out. h x env out i)

module _ (w : World) (n : ℕ) where
  abbrev values_of : ExprTrees → Steps (List Val)
  values_of es = all_of (expr_runs w n) (exprs_in es)

  abbrev behind_these : List Val → List Val → Steps (List Val)
  behind_these vs us env out = ends (vs ++ us) env out

  abbrev before_these : Val → List Val → Steps (List Val)
  before_these v us env out = ends (v ∷ us) env out

  one_more : (vs : List Val) (v : Val) (m : Run (Left (List Val))) → then_do (then_do m (before_these v)) (behind_these vs) ≡ then_do m (behind_these (vs ++ v ∷ []))
  one_more vs v m =
      do_twice (before_these v) (behind_these vs) m
      ∙ do_same m (λ us env out. ends (vs ++ v ∷ us) env out) (behind_these (vs ++ v ∷ [])) (λ us env out. ap (λ (all : List Val). ends all env out) (sym (append_assoc vs (v ∷ []) us)))

  values_in_order : (es : ExprTrees) (vs : List Val) (env : Environment) (out : Effects) → values_run w n es vs env out ≡ then_do (values_of es env out) (behind_these vs)
  unfolding expr_runs
  values_in_order no_exprs vs env out = ap (λ (all : List Val). ends all env out) (sym (append-nil vs))
  values_in_order (expr_then e es) vs env out =
      do_same (expr_runs w n e env out) (λ v env1 out1. values_run w n es (vs ++ v ∷ []) env1 out1) (λ v env1 out1. then_do (then_do (values_of es env1 out1) (before_these v)) (behind_these vs)) (λ v env1 out1. values_in_order es (vs ++ v ∷ []) env1 out1 ∙ sym (one_more vs v (values_of es env1 out1)))
      ∙ sym (do_twice (λ v env1 out1. then_do (values_of es env1 out1) (before_these v)) (behind_these vs) (expr_runs w n e env out))

pub lists_are_their_values : ListsAreTheirValues
unfolding expr_runs
lists_are_their_values w n p es env out =
    ap (λ (m : Run (Left (List Val))). then_do m (λ vs env1 out1. list_runs vs p env1 out1)) (values_in_order w (deeper n 1) es [] env out)
    ∙ do_twice (behind_these w (deeper n 1) []) (λ vs env1 out1. list_runs vs p env1 out1) (values_of w (deeper n 1) es env out)
