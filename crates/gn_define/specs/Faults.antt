-- What is wrong with an item, and what its fault shows.
use Rattle.std.specs.Prelude.{ℕ, ◌≡◌, List, Option, None, Some, Result, Err}
use Rattle.gn_faults.specs.declared.code.Code.{Code}
use Rattle.gn_faults.specs.declared.code.Code.TheVariants as codes
use Rattle.gn_paths.specs.declared.error.PathError.TheVariants as path
use Rattle.gn_labels.specs.declared.error.LabelError.{LabelError}
use Rattle.gn_labels.specs.declared.error.LabelError.TheVariants as label
use Rattle.gn_labels.specs.declared.error.PatternError.{PatternError}
use Rattle.gn_labels.specs.declared.error.PatternError.TheVariants as pattern
use Rattle.gn_rows.specs.declared.kinds.ItemKind.{ItemKind}
use Rattle.gn_rows.specs.declared.variable.Variable.{Variable}
use Rattle.gn_rows.specs.Names.{variable_name, kind_name}
use Rattle.gn_define.specs.declared.fault.ItemFault.{ItemFault}
use Rattle.gn_define.specs.declared.fault.ItemFault.TheVariants as faults
use Rattle.gn_define.specs.declared.fault.DefineError.{DefineError}
use Rattle.gn_define.specs.declared.fault.DefineError.TheVariants as define_errors
use Rattle.gn_define.specs.declared.fault.ReadError.{ReadError}
use Rattle.gn_define.specs.declared.fault.ReadError.TheVariants as read_errors

-- the code of a fault: a bad name is a bad label, an unknown tool is excluded
abbrev pub code_of : ItemFault → Code
code_of faults.BadName = codes.BadLabel
code_of faults.UnknownTool = codes.Excluded
code_of (faults.Variable variable code) = code

-- the text that a fault of a variable shows: faults of paths, labels, patterns and substitutions show none
abbrev pub variable_detail : ItemKind → Variable → Code → Option (List ℕ)
variable_detail kind variable codes.WrongType = Some (variable_name variable)
variable_detail kind variable codes.Missing = Some (variable_name variable)
variable_detail kind variable codes.Excluded = Some (variable_name variable)
variable_detail kind variable codes.BadArguments = Some (kind_name kind)
variable_detail kind variable _ = None

-- the text that a fault shows of an item of this kind and name
abbrev pub detail_of : ItemKind → List ℕ → ItemFault → Option (List ℕ)
detail_of kind name faults.BadName = None
detail_of kind name faults.UnknownTool = Some name
detail_of kind name (faults.Variable variable code) = variable_detail kind variable code

-- an error is want of memory, or the fault of what was to be read or defined
abbrev pub IsReadFault : {A : Type 0} → ReadError → Result A Code → Type 0
IsReadFault (read_errors.Wrong code) read = read ≡ Err code
IsReadFault read_errors.Memory read = Unit {0}

abbrev pub IsItemFault : {A : Type 0} → DefineError → Result A ItemFault → Type 0
IsItemFault (define_errors.Wrong fault) made = made ≡ Err fault
IsItemFault define_errors.Memory made = Unit {0}

-- the fault of a variable whose value isn't read
abbrev pub of_variable : Variable → ReadError → DefineError
of_variable variable (read_errors.Wrong code) = define_errors.Wrong (faults.Variable variable code)
of_variable variable read_errors.Memory = define_errors.Memory

abbrev pub IsFieldFault : {A : Type 0} → Variable → ReadError → Result A ItemFault → Type 0
IsFieldFault variable (read_errors.Wrong code) made = made ≡ Err (faults.Variable variable code)
IsFieldFault variable read_errors.Memory made = Unit {0}

-- the errors of labels and patterns
abbrev pub label_error : LabelError → ReadError
label_error label.BadLabel = read_errors.Wrong codes.BadLabel
label_error (label.Path path.AboveRoot) = read_errors.Wrong codes.AboveRoot
label_error (label.Path path.BadPath) = read_errors.Wrong codes.BadPath
label_error (label.Path path.Memory) = read_errors.Memory
label_error label.Memory = read_errors.Memory

abbrev pub pattern_error : PatternError → ReadError
pattern_error pattern.BadPattern = read_errors.Wrong codes.BadPattern
pattern_error (pattern.Path path.AboveRoot) = read_errors.Wrong codes.AboveRoot
pattern_error (pattern.Path path.BadPath) = read_errors.Wrong codes.BadPath
pattern_error (pattern.Path path.Memory) = read_errors.Memory
pattern_error pattern.Memory = read_errors.Memory
