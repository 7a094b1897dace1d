-- What the imports of a project leave, by rounds.
use Rattle.std.specs.Prelude.{ℕ, zero, suc, List, length, Option, Some, None}
use Rattle.gn_definitions.specs.Imported.{ImportState}
use Rattle.gn_runs.specs.Runs.{Content, Imported, has_value, is_unusable, Answers, End, ended, wrong, spoiled, needs, Run}

-- the files of a project and what they do: what there is at each path, the paths of the files that there are, and the execution of the file at a path
-- as an import, over known answers
pub record Project : Type 0 where
  pub content : List ℕ → Content
  pub paths : List (List ℕ)
  pub execute : List ℕ → Answers → Run ImportState

-- every content is known, and of the imports these
abbrev pub knowing : Project → (List ℕ → Option Imported) → Answers
knowing project imports = record { contents = λ path. Some (project.content path); imports = imports }

-- what an execution that has ended leaves for those who import the file: a wrong or spoiled one can't be used. One that needs an answer leaves nothing
abbrev pub imported_of : End ImportState → Option Imported
imported_of (ended value) = Some (has_value value)
imported_of (wrong fault) = Some is_unusable
imported_of (spoiled path place) = Some is_unusable
imported_of (needs question place) = None

-- the first round knows no import; each further one knows what the executions over the one before leave
abbrev pub round : Project → ℕ → List ℕ → Option Imported
round project zero path = None
round project (suc n) path = imported_of (project.execute path (knowing project (round project n))).end

-- the round whose number is the count of the files plus one; an import that it doesn't know has no value
unfoldable pub values : Project → List ℕ → Option Imported
values project = round project (suc (length project.paths))

-- an import without a value can't be used either
abbrev pub usable : Option Imported → Imported
usable None = is_unusable
usable (Some y) = y

-- the answers that everything in the project gets
unfoldable pub final : Project → Answers
final project = knowing project (λ path. Some (usable (values project path)))
