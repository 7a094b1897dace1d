-- The executions of a build as entries that are sorted.
use Rattle.std.specs.Prelude.{◌≡◌, ℕ, ◌<◌, List, [], ◌∷◌, ◌++◌, slice_get, Option, Some, None, true, if◌then◌else◌}
use Rattle.gn_core.specs.Keys.{Key}
use Rattle.gn_book.specs.Logs.{Log, key_at}
use Rattle.gn_projects.specs.Loaded.{execution_texts}
use Rattle.gn_builds.specs.Rest.{is_execution}
use Rattle.gn_judging.specs.Whole.{text_key, IsTable}
use Rattle.gn_judging.specs.declared.executions.Execution.{Execution}
use Rattle.gn_judging.specs.declared.executions.Execution.TheVariants.{Setup, Early, Usual, Load}
use Rattle.gn_judging.specs.declared.executions.ExecutionKey.{ExecutionKey}

-- the texts by which the executions under a toolchain are in order
abbrev pub ranked : Execution → List (List ℕ)
ranked Setup = (0 ∷ []) ∷ [] ∷ []
ranked (Early path) = (1 ∷ []) ∷ path.now ∷ []
ranked (Usual path) = (2 ∷ []) ∷ path.now ∷ []
ranked (Load directory) = (3 ∷ []) ∷ directory.now ∷ []

-- and those of a key
abbrev pub texts_of : ExecutionKey → List (List ℕ)
texts_of k = text_key k.toolchain ∷ ranked k.execution

-- the number and the texts of an entry
abbrev pub number_of : ExecutionKey × ℕ → ℕ
number_of e = e.1

abbrev pub entry_texts : ExecutionKey × ℕ → List (List ℕ)
entry_texts e = texts_of e.0

-- the texts of the execution that a key names, if it names one
abbrev pub texts_in : List ℕ → Key → Option (List (List ℕ))
texts_in default k = if is_execution k then Some (execution_texts default k) else None

-- a number is put behind others, with a key that has these texts, if there are any
abbrev pub IsPut : Option (List (List ℕ)) → ℕ → List (ExecutionKey × ℕ) → List (ExecutionKey × ℕ) → Type 0
IsPut None number old new = new ≡ old
IsPut (Some texts) number old new = (k : ExecutionKey) × (texts_of k ≡ texts) × (new ≡ old ++ (k, number) ∷ [])

-- an execution has this number, which is below another
abbrev pub IsExecution : Log → ℕ → ℕ → Type 0
IsExecution l end number = (number < end) × ((k : Key) × (slice_get l.keys number ≡ Some k) × (is_execution k ≡ true))

-- the entries of the executions below a number
abbrev pub AreNumbered : List ℕ → Log → ℕ → List (ExecutionKey × ℕ) → Type 0
AreNumbered default l end entries = IsTable number_of entry_texts (λ number. execution_texts default (key_at l number)) (IsExecution l end) entries
