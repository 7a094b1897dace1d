-- Steps of an evaluation: what each does to an environment and to the effects, over known answers.
use Rattle.std.specs.Prelude.{ℕ, ◌+◌, min, List, [], ◌∷◌, ◌++◌, Option, Some, None}
use Rattle.gn_paths.specs.declared.place.Place.{Place}
use Rattle.gn_tree.specs.declared.position.Position.{Position}
use Rattle.gn_tree.specs.Tree.{ExprTree}
use Rattle.gn_values.specs.Val.{Val}
use Rattle.gn_definitions.specs.Imported.{DefinitionState, ImportState}
use Rattle.gn_faults.specs.declared.fault.Fault.{Fault}
use Rattle.gn_items.specs.Effects.{Effects, with_asked}
use Rattle.gn_runs.specs.Runs.{Question, content_of, import_of, Content, Imported, has_value, is_unusable, Answers, End, ended, wrong, spoiled, needs, Run}
use Rattle.gn_environment.specs.Environment.{Environment}

-- what a step leaves: a value, and the environment and the effects behind it
pub record Left (A : Type 0) : Type 0 where
  pub value : A
  pub environment : Environment
  pub effects : Effects

-- what is still to be done in an environment. A run has asked what the effects had asked before it, and what it asks itself
abbrev pub Steps : Type 0 → Type 0
Steps A = Environment → Effects → Run (Left A)

-- a value, and nothing is asked
abbrev pub ends : {A : Type 0} → A → Environment → Effects → Run (Left A)
ends x env out = record { end = ended (record { value = x; environment = env; effects = out }); asked = out.asked }

-- a fault, and nothing is asked
abbrev pub breaks : {A : Type 0} → Fault → Effects → Run (Left A)
breaks fault out = record { end = wrong fault; asked = out.asked }

-- one step behind another: it goes on with what that left
abbrev pub onward : {A B : Type 0} → End (Left A) → List Question → (A → Environment → Effects → Run (Left B)) → Run (Left B)
onward (ended l) asked next = next l.value l.environment l.effects
onward (wrong fault) asked next = record { end = wrong fault; asked = asked }
onward (spoiled path place) asked next = record { end = spoiled path place; asked = asked }
onward (needs question place) asked next = record { end = needs question place; asked = asked }

abbrev pub then_do : {A B : Type 0} → Run (Left A) → (A → Environment → Effects → Run (Left B)) → Run (Left B)
then_do run next = onward run.end run.asked next

-- asking for the content of a file
abbrev pub content_asked : {A : Type 0} → Option Content → List ℕ → Place → Effects → (Content → Effects → Run (Left A)) → Run (Left A)
content_asked None path place out next = record { end = needs (content_of path) place; asked = out.asked ++ content_of path ∷ [] }
content_asked (Some content) path place out next = next content (with_asked (content_of path) out)

-- asking for what an import leaves: one that can't be used spoils the evaluation, here and nowhere else
abbrev pub import_asked : {A : Type 0} → Option Imported → List ℕ → Place → Effects → (ImportState → Effects → Run (Left A)) → Run (Left A)
import_asked None path place out next = record { end = needs (import_of path) place; asked = out.asked ++ import_of path ∷ [] }
import_asked (Some is_unusable) path place out next = record { end = spoiled path place; asked = out.asked ++ import_of path ∷ [] }
import_asked (Some (has_value value)) path place out next = next value (with_asked (import_of path) out)

-- what a step may look at beside the environment: the known answers, and, as far as calls may still open, the bodies of templates and what expressions
-- come to that are read from files
pub record World : Type 0 where
  pub answers : Answers
  pub call : DefinitionState → Position → Steps (Unit {0})
  pub read : ExprTree → Steps Val

-- the greatest depth of an evaluation
abbrev pub max_evaluation_depth : ℕ
max_evaluation_depth = 400

-- how deep a part nests that stands so much deeper than what it is a part of. Above the greatest depth nothing is told apart: no call may stand there
abbrev pub deeper : ℕ → ℕ → ℕ
deeper nesting more = min (nesting + more) max_evaluation_depth
