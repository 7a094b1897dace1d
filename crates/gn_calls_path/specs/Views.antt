-- What the code's results stand for.
use Rattle.std.specs.Prelude.{◌≡◌, ℕ, List, [], map, Option, Some, None, Result, Ok, Err}
use Rattle.gn_faults.specs.declared.code.Code.{Code}
use Rattle.gn_faults.specs.declared.code.Code.TheVariants as faults
use Rattle.gn_labels.specs.declared.error.LabelError.{LabelError}
use Rattle.gn_labels.specs.declared.error.LabelError.TheVariants as label
use Rattle.gn_labels.specs.declared.error.PatternError.{PatternError}
use Rattle.gn_labels.specs.declared.error.PatternError.TheVariants as pattern
use Rattle.gn_paths.specs.declared.error.PathError.TheVariants as path
use Rattle.gn_paths.specs.declared.error.PathFault.{PathFault}
use Rattle.gn_calls_text.specs.declared.error.CallError.{CallError}
use Rattle.gn_calls_text.specs.declared.error.CallError.TheVariants.{Refused, Memory}
use Rattle.gn_calls_text.specs.Views.{bytes_in}
use Rattle.gn_calls_path.specs.declared.given.OneOrList.{OneOrList as GivenOneOrList}
use Rattle.gn_calls_path.specs.declared.given.OneOrList.TheVariants.{One, Listed}
use Rattle.gn_calls_path.specs.declared.making.Making.{Making}
use Rattle.gn_calls_path.specs.declared.making.Making.TheVariants.{Info, Rebased}
use Rattle.gn_calls_path.specs.declared.place.Where.{Where}
use Rattle.gn_calls_path.specs.Calls.{path_info_at}
use Rattle.gn_calls_path.specs.Rebase.{rebased_at}
use Rattle.gn_calls_path.specs.Each.{OneOrList, one, listed}
use Rattle.gn_calls_path.specs.Found.{path_code}

-- a result that is what is read of an argument, or the code of its fault at that argument, or want of memory
abbrev pub IsFound : {T A : Type 0} → (T → A) → ℕ → Result T CallError → Result A Code → Type 0
IsFound view argument (Ok x) found = found ≡ Ok (view x)
IsFound view argument (Err (Refused code at)) found = (found ≡ Err code) × (at ≡ Some argument)
IsFound view argument (Err Memory) found = Unit {0}

-- the refusal of a text that is no label, and of one that is no pattern
abbrev pub label_refusal : LabelError → CallError
label_refusal label.BadLabel = Refused faults.BadLabel (Some 0)
label_refusal (label.Path path.AboveRoot) = Refused faults.AboveRoot (Some 0)
label_refusal (label.Path path.BadPath) = Refused faults.BadPath (Some 0)
label_refusal (label.Path path.Memory) = Memory
label_refusal label.Memory = Memory

abbrev pub pattern_refusal : PatternError → CallError
pattern_refusal pattern.BadPattern = Refused faults.BadPattern (Some 1)
pattern_refusal (pattern.Path path.AboveRoot) = Refused faults.AboveRoot (Some 1)
pattern_refusal (pattern.Path path.BadPath) = Refused faults.BadPath (Some 1)
pattern_refusal (pattern.Path path.Memory) = Memory
pattern_refusal pattern.Memory = Memory

-- a directory, and the empty text where there is none
abbrev pub base_text : Option (List ℕ) → List ℕ
base_text (Some base) = base
base_text None = []

abbrev pub new_base_of : Result (Option (List ℕ)) Code → Result (List ℕ) Code
new_base_of (Ok base) = Ok (base_text base)
new_base_of (Err code) = Err code

-- what is made of a text
abbrev pub made_at : Where → Making → List ℕ → Result (List ℕ) Code
made_at w (Info info) = path_info_at w info
made_at w (Rebased new_base current_base) = rebased_at w (base_text new_base.now) current_base.now

-- no fault, or the fault at the first argument, or want of memory
abbrev pub IsSound : Result (Unit {0}) CallError → Option PathFault → Type 0
IsSound (Ok u) fault = fault ≡ None
IsSound (Err (Refused code at)) fault = (f : PathFault) × ((fault ≡ Some f) × ((code ≡ path_code f) × (at ≡ Some 0)))
IsSound (Err Memory) fault = Unit {0}

-- a string, or the strings of a list
abbrev pub given_of : GivenOneOrList → OneOrList
given_of (One v) = one (bytes_in v.now)
given_of (Listed vs) = listed (map bytes_in vs.now)
