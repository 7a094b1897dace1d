-- What the strings of a value are read as where an item is defined.
use Rattle.std.specs.Prelude.{ℕ, List, [], ◌∷◌, ◌++◌, Bool, false, Option, None, Some, Result, Ok, Err, if◌then◌else◌, codes}
use Rattle.std.specs.List.{list_all, list_any}
use Rattle.std.specs.Str.{bytes_eq}
use Rattle.gn_faults.specs.declared.code.Code.{Code}
use Rattle.gn_faults.specs.declared.code.Code.TheVariants as code
use Rattle.gn_paths.specs.declared.error.PathFault.{PathFault}
use Rattle.gn_paths.specs.declared.error.PathFault.TheVariants as path
use Rattle.gn_paths.specs.Components.{is_slash}
use Rattle.gn_paths.specs.Normal.{is_path_byte}
use Rattle.gn_paths.specs.Resolve.{path_meant}
use Rattle.gn_labels.specs.declared.error.LabelFault.{LabelFault}
use Rattle.gn_labels.specs.declared.error.LabelFault.TheVariants as label
use Rattle.gn_labels.specs.declared.error.PatternFault.{PatternFault}
use Rattle.gn_labels.specs.declared.error.PatternFault.TheVariants as pattern
use Rattle.gn_labels.specs.declared.label.Label.{Label}
use Rattle.gn_labels.specs.declared.pattern.Pattern.{Pattern}
use Rattle.gn_labels.specs.Reading.{label_read}
use Rattle.gn_labels.specs.Patterns.{pattern_read}
use Rattle.gn_substs.specs.declared.positions.Position.{Position}
use Rattle.gn_substs.specs.declared.subst.Subst.{Subst}
use Rattle.gn_substs.specs.Reading.{subst_read}
use Rattle.gn_values.specs.Val.{Val, vstr}
use Rattle.gn_define.specs.declared.forms.TextForm.{TextForm}
use Rattle.gn_define.specs.declared.forms.TextForm.TheVariants.{Plain, Library, DepsFormat}
use Rattle.gn_define.specs.declared.place.Where.{Where}

-- what follows where the first step succeeds
abbrev pub then_do : {A B E : Type 0} → (A → Result B E) → Result A E → Result B E
then_do go (Ok a) = go a
then_do go (Err e) = Err e

-- a result, unless there is a fault
abbrev pub unless : {A E : Type 0} → Option E → Result A E → Result A E
unless (Some fault) result = Err fault
unless None result = result

-- the bytes of a string
abbrev pub bytes_of : Val → List ℕ
bytes_of (vstr t) = t
bytes_of _ = []

-- whether a value is a string without a newline and a NUL
abbrev pub is_plain : Val → Bool
is_plain (vstr t) = list_all is_path_byte t
is_plain _ = false

-- the codes of what keeps a text from being a path, a label, a pattern
abbrev pub path_code : PathFault → Code
path_code path.AboveRoot = code.AboveRoot
path_code path.BadPath = code.BadPath

abbrev pub label_code : LabelFault → Code
label_code label.BadLabel = code.BadLabel
label_code (label.Path fault) = path_code fault

abbrev pub pattern_code : PatternFault → Code
pattern_code pattern.BadPattern = code.BadPattern
pattern_code (pattern.Path fault) = path_code fault

-- what was read, or the code of its fault
abbrev pub coded : {A F : Type 0} → (F → Code) → Result A F → Result A Code
coded f (Ok a) = Ok a
coded f (Err fault) = Err (f fault)

-- a path, a label, a pattern from the directory of the file, and a substitution text
abbrev pub path_in : Where → List ℕ → Result (List ℕ) Code
path_in w text = coded path_code (path_meant w.directory text)

abbrev pub label_in : Where → List ℕ → Result Label Code
label_in w text = coded label_code (label_read w.directory w.toolchain text)

abbrev pub pattern_in : Where → List ℕ → Result Pattern Code
pattern_in w text = coded pattern_code (pattern_read w.directory text)

abbrev pub subst_in : Position → List ℕ → Result Subst Code
subst_in position text = coded (λ offset. code.UnknownSubstitution) (subst_read position text)

-- a text that is kept as one: a library that holds a slash is a path
abbrev pub text_in : Where → TextForm → List ℕ → Result (List ℕ) Code
text_in w Plain text = Ok text
text_in w Library text = if list_any is_slash text then path_in w text else Ok text
text_in w DepsFormat text = if bytes_eq text (codes "gcc") then Ok text else Err code.BadArguments

-- each string of a list behind those that are read, or the first fault
abbrev pub all_read : {A : Type 0} → (List ℕ → Result A Code) → List A → List Val → Result (List A) Code
all_read read made [] = Ok made
all_read read made (v ∷ vs) = then_do (λ a. all_read read (made ++ a ∷ []) vs) (read (bytes_of v))
