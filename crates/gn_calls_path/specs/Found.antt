-- What is read of a call's arguments, and the codes of its faults.
use Rattle.std.specs.Prelude.{ℕ, List, [], ◌∷◌, Some, Result, Ok, Err}
use Rattle.gn_faults.specs.declared.code.Code.{Code}
use Rattle.gn_faults.specs.declared.code.Code.TheVariants as faults
use Rattle.gn_labels.specs.declared.error.LabelFault.{LabelFault}
use Rattle.gn_labels.specs.declared.error.LabelFault.TheVariants as label
use Rattle.gn_labels.specs.declared.error.PatternFault.{PatternFault}
use Rattle.gn_labels.specs.declared.error.PatternFault.TheVariants as pattern
use Rattle.gn_paths.specs.declared.error.PathFault.{PathFault}
use Rattle.gn_paths.specs.declared.error.PathFault.TheVariants as path
use Rattle.gn_calls_text.specs.Answers.{Settled, refuses}

-- the codes of what keeps a text from being a path, a label, a pattern
abbrev pub path_code : PathFault → Code
path_code path.AboveRoot = faults.AboveRoot
path_code path.BadPath = faults.BadPath

abbrev pub label_code : LabelFault → Code
label_code label.BadLabel = faults.BadLabel
label_code (label.Path fault) = path_code fault

abbrev pub pattern_code : PatternFault → Code
pattern_code pattern.BadPattern = faults.BadPattern
pattern_code (pattern.Path fault) = path_code fault

-- what was read, or the code of its fault
abbrev pub coded : {A F : Type 0} → (F → Code) → Result A F → Result A Code
coded code (Ok x) = Ok x
coded code (Err fault) = Err (code fault)

-- what is read of each text, in order, or the code of the first fault
abbrev pub with_next : {A : Type 0} → Result A Code → Result (List A) Code → Result (List A) Code
with_next (Ok x) (Ok xs) = Ok (x ∷ xs)
with_next (Ok x) (Err code) = Err code
with_next (Err code) rest = Err code

abbrev pub each : {A : Type 0} → (List ℕ → Result A Code) → List (List ℕ) → Result (List A) Code
each read [] = Ok []
each read (t ∷ ts) = with_next (read t) (each read ts)

-- the answer where something was read of the argument of this number; a fault of it stands at that argument
abbrev pub read_at : {A : Type 0} → ℕ → Result A Code → (A → Settled) → Settled
read_at argument (Ok x) answer = answer x
read_at argument (Err code) answer = refuses code (Some argument)
