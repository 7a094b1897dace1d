-- The file of a build file, which the work on it needs first.
use Rattle.std.specs.Prelude.{◌≡◌, ℕ, List, [], ◌∷◌, Option, Some, None}
use Rattle.gn_runs.specs.Runs.{content_of}
use Rattle.gn_executions.specs.Base.{BaseState}
use Rattle.gn_executions.specs.Units.{own_place}
use Rattle.gn_core.specs.Keys.{Key, Read, Filed}
use Rattle.gn_builds.specs.Working.{IsInNeed}

-- nothing is filed at this path, where it is the one that was found
abbrev pub IsUnfiledAt : Filed → List ℕ → Option (List ℕ) → Type 0
IsUnfiledAt filed path None = Unit {0}
IsUnfiledAt filed path (Some found) = (found ≡ path) × (filed (Read path) ≡ None)

-- over what is filed the work on a key asks first what there is at this path, for the beginning of the file there, and needs it
abbrev pub NeedsFirst : Filed → Key → List ℕ → Type 0
NeedsFirst filed k path = (start : BaseState) → IsInNeed start filed k (Read path) (own_place path) (content_of path ∷ [])

-- where a path was found
abbrev pub NeedsOwn : Filed → Key → Option (List ℕ) → Type 0
NeedsOwn filed k None = Unit {0}
NeedsOwn filed k (Some path) = NeedsFirst filed k path
