-- What makes files and their executions a project.
use Rattle.std.specs.Prelude.{◌≡◌, ◌⊎◌, ℕ, if◌then◌else◌, List, [], ◌∷◌, Some}
use Rattle.std.specs.Str.{bytes_eq}
use Rattle.gn_runs.specs.Runs.{is_absent, Answers, End, wrong, IsTree}
use Rattle.gn_imports.specs.Rounds.{Project}

-- the path is one of these
abbrev pub IsOneOf : List ℕ → List (List ℕ) → Type 0
IsOneOf path [] = ⊥
IsOneOf path (p ∷ ps) = (path ≡ p) ⊎ IsOneOf path ps

-- whether an execution is wrong
abbrev pub IsWrong : {A : Type 0} → End A → Type 0
IsWrong (wrong fault) = Unit {0}
IsWrong _ = ⊥

-- a project: each execution is a tree of questions, each path at which there is something is listed, and importing a path at which there is no file
-- is wrong at once
pub record IsProject (project : Project) : Type 0 where
  pub trees : (path : List ℕ) → IsTree (project.execute path)
  pub listed : (path : List ℕ) → (project.content path ≡ is_absent) ⊎ IsOneOf path project.paths
  pub absent : (path : List ℕ) (a : Answers) → a.contents path ≡ Some is_absent → IsWrong (project.execute path a).end

-- the same everywhere but at one path
abbrev pub set_at : {A : Type 0} → List ℕ → A → (List ℕ → A) → List ℕ → A
set_at path x f q = if bytes_eq path q then x else f q
