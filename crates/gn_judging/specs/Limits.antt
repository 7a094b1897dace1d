-- What an import needs, as a list of paths that grows by what the answers of imports ask.
use Rattle.std.specs.Prelude.{◌≡◌, ℕ, ◌+◌, ◌<◌, ◌≤◌, length, map, List, [], ◌∷◌, Some, slice_get, Bool, true, false}
use Rattle.std.specs.Str.{bytes_eq}
use Rattle.indexmap.specs.IndexSet.{insert_key}
use Rattle.gn_items.specs.Questions.{question_of}
use Rattle.gn_runs.specs.Runs.{Question, content_of, import_of}
use Rattle.gn_runs.specs.Laws.{IsAsked}
use Rattle.gn_closure.specs.Closure.{In}
use Rattle.gn_core.specs.Keys.{Layer, Key, Read, Import, Unit_of, Resolve, Filed}
use Rattle.gn_core.specs.Machine.{NeededBy, asked_in}
use Rattle.gn_builds.specs.Causes.{NeedsMany}
use Rattle.gn_answers.specs.declared.answer.Executed.{Executed}
use Rattle.gn_answers.specs.declared.answer.Executed.TheVariants.{Left, Wrong, Spoiled}

-- what an execution has asked
abbrev pub asked_of : {A : Type 0} → Executed A → List Question
asked_of (Left value effects) = effects.asked
asked_of (Wrong fault asked) = map question_of asked.items
asked_of (Spoiled path place asked) = map question_of asked.items

-- these paths, and behind them those of the imports that are asked for, each once
abbrev pub with_import : List (List ℕ) → Question → List (List ℕ)
with_import paths (content_of path) = paths
with_import paths (import_of path) = insert_key bytes_eq paths path

abbrev pub with_imports : List (List ℕ) → List Question → List (List ℕ)
with_imports paths [] = paths
with_imports paths (q ∷ qs) = with_imports (with_import paths q) qs

-- The import of a path is one of these, it needs each of them, and among them is all for which so many of them ask, the first ones
pub record AreFound (filed : Filed) (layer : Layer) (path : List ℕ) (paths : List (List ℕ)) (opened : ℕ) : Type 0 where
  pub first : In paths path
  pub needed : (p : List ℕ) → In paths p → NeededBy filed layer path (Import layer p)
  pub closed : (i : ℕ) (p q : List ℕ) → i < opened → slice_get paths i ≡ Some p → IsAsked (asked_in (filed (Import layer p))) (import_of q) → In paths q

-- that of one more is among them, or there is no such one
abbrev pub OpensNext : Filed → Layer → List ℕ → List (List ℕ) → ℕ → Bool → Type 0
OpensNext filed layer path paths at true = AreFound filed layer path paths (at + 1)
OpensNext filed layer path paths at false = AreFound filed layer path paths at × (length paths ≤ at)

-- a key is that of an import that needs more imports than one may need
abbrev pub IsLarge : Filed → Key → Type 0
IsLarge filed (Import layer path) = NeedsMany filed layer path
IsLarge filed (Read path) = ⊥
IsLarge filed (Unit_of unit) = ⊥
IsLarge filed (Resolve label) = ⊥
