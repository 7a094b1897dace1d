-- The fields of an item: what its block gives at each row, in the order of the rows.
use Rattle.std.specs.Prelude.{ℕ, ℤ, List, [], ◌∷◌, ◌++◌, Bool, Option, None, Some, Result, Ok, Err, map, if◌then◌else◌}
use Rattle.std.specs.Str.{bytes_eq}
use Rattle.gn_faults.specs.declared.code.Code.{Code}
use Rattle.gn_labels.specs.declared.label.Label.{Label}
use Rattle.gn_labels.specs.declared.pattern.Pattern.{Pattern}
use Rattle.gn_substs.specs.declared.subst.Subst.{Subst}
use Rattle.gn_values.specs.Val.{Val}
use Rattle.gn_rows.specs.declared.row.Row.{Row}
use Rattle.gn_rows.specs.declared.variable.Variable.{Variable}
use Rattle.gn_rows.specs.declared.variable.Variable.TheVariants.{Sources}
use Rattle.gn_rows.specs.Names.{variable_name}
use Rattle.gn_define.specs.declared.fault.ItemFault.{ItemFault}
use Rattle.gn_define.specs.declared.fault.ItemFault.TheVariants as faults
use Rattle.gn_define.specs.declared.fields.Entry.{Entry}
use Rattle.gn_define.specs.declared.place.Where.{Where}
use Rattle.gn_define.specs.Checking.{checked}
use Rattle.gn_define.specs.Held.{Held, boolean, count, texts, paths, labels, patterns, substs, scope, held_of}
use Rattle.gn_define.specs.Reading.{then_do}

-- a variable and what it holds
abbrev pub entry_of : Entry → Variable × Held
entry_of e = (e.variable, held_of e.field)

abbrev pub entries_of : List Entry → List (Variable × Held)
entries_of es = map entry_of es

-- what a variable holds; none where the block doesn't set it
abbrev pub field_at : List (Variable × Held) → Variable → Option Held
field_at [] variable = None
field_at (e ∷ es) variable = if bytes_eq (variable_name e.0) (variable_name variable) then Some e.1 else field_at es variable

-- what a variable holds in each form; nothing where it isn't set, or holds something of another form
abbrev pub boolean_of : Option Held → Option Bool
boolean_of (Some (boolean b)) = Some b
boolean_of _ = None

abbrev pub count_of : Option Held → Option ℤ
count_of (Some (count n)) = Some n
count_of _ = None

abbrev pub texts_of : Option Held → List (List ℕ)
texts_of (Some (texts ts)) = ts
texts_of _ = []

abbrev pub paths_of : Option Held → List (List ℕ)
paths_of (Some (paths ps)) = ps
paths_of _ = []

abbrev pub labels_of : Option Held → List Label
labels_of (Some (labels ls)) = ls
labels_of _ = []

abbrev pub patterns_of : Option Held → List Pattern
patterns_of (Some (patterns ps)) = ps
patterns_of _ = []

abbrev pub substs_of : Option Held → List Subst
substs_of (Some (substs ss)) = ss
substs_of _ = []

abbrev pub scope_of : Option Held → Option Val
scope_of (Some (scope v)) = Some v
scope_of _ = None

-- a variable and what its value gives, behind those that are made
abbrev pub with_checked : Variable → Result Held Code → List (Variable × Held) → Result (List (Variable × Held)) ItemFault
with_checked variable (Ok field) made = Ok (made ++ (variable, field) ∷ [])
with_checked variable (Err code) made = Err (faults.Variable variable code)

-- one row more: nothing where the block gives the variable no value. The files of an item are those of its sources, which
-- stand in an earlier row
abbrev pub with_field : Where → Row → Option Val → List (Variable × Held) → Result (List (Variable × Held)) ItemFault
with_field w row None made = Ok made
with_field w row (Some v) made = with_checked row.variable (checked w (paths_of (field_at made Sources)) row.row_type v) made

-- these rows behind those that are made, or the fault of the first row that has one
abbrev pub filled : Where → (List ℕ → Option Val) → List (Variable × Held) → List Row → Result (List (Variable × Held)) ItemFault
filled w values made [] = Ok made
filled w values made (row ∷ rows) =
    then_do (λ more. filled w values more rows) (with_field w row (values (variable_name row.variable)) made)
