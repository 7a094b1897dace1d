-- What a value gives as the field of a row: its type is judged first, then its content.
use Rattle.std.specs.Prelude.{ℕ, List, [], ◌∷◌, Bool, true, false, ◌&&◌, Result, Ok, Err, if◌then◌else◌, int_lt, pos}
use Rattle.std.specs.List.{list_all}
use Rattle.gn_faults.specs.declared.code.Code.{Code}
use Rattle.gn_faults.specs.declared.code.Code.TheVariants.{WrongType}
use Rattle.gn_values.specs.Val.{Val, vbool, vint, vstr, vlist, vscope, list_of}
use Rattle.gn_rows.specs.declared.kinds.ItemKind.{ItemKind}
use Rattle.gn_rows.specs.declared.kinds.ItemKind.TheVariants.{Action, ActionForeach}
use Rattle.gn_rows.specs.declared.row.RowType.{RowType}
use Rattle.gn_rows.specs.declared.row.RowType.TheVariants.{Boolean, Count, One, Many, OneOrMany, Scope, Unused}
use Rattle.gn_rows.specs.declared.row.StringKind.{StringKind}
use Rattle.gn_rows.specs.declared.row.StringKind.TheVariants as contents
use Rattle.gn_substs.specs.declared.positions.Position.TheVariants.{ActionArgs, ForeachArgs, ToolText}
use Rattle.gn_define.specs.declared.forms.TextForm.{TextForm}
use Rattle.gn_define.specs.declared.forms.TextForm.TheVariants as forms
use Rattle.gn_define.specs.declared.forms.SubstForm.{SubstForm}
use Rattle.gn_define.specs.declared.forms.SubstForm.TheVariants.{At, File}
use Rattle.gn_define.specs.declared.forms.FileRole.TheVariants as roles
use Rattle.gn_define.specs.declared.place.Where.{Where}
use Rattle.gn_define.specs.Files.{subst_as}
use Rattle.gn_define.specs.Held.{Held, boolean, count, texts, paths, labels, patterns, substs, scope, unused}
use Rattle.gn_define.specs.Reading.{then_do, is_plain, text_in, path_in, label_in, pattern_in, all_read}

-- the strings of a value of a type. They are judged before what they mean
abbrev pub plain : List Val → Result (List Val) Code
plain vs = if list_all is_plain vs then Ok vs else Err WrongType

abbrev pub one_string : Val → Result (List Val) Code
one_string (vstr t) = plain (vstr t ∷ [])
one_string _ = Err WrongType

abbrev pub many_strings : Val → Result (List Val) Code
many_strings (vlist vs) = plain (list_of vs)
many_strings _ = Err WrongType

abbrev pub one_or_many_strings : Val → Result (List Val) Code
one_or_many_strings (vlist vs) = plain (list_of vs)
one_or_many_strings (vstr t) = plain (vstr t ∷ [])
one_or_many_strings _ = Err WrongType

-- values that aren't strings
abbrev pub boolean_in : Val → Result Held Code
boolean_in (vbool b) = Ok (boolean b)
boolean_in _ = Err WrongType

abbrev pub count_in : Val → Result Held Code
count_in (vint n) = if int_lt n (pos 0) then Err WrongType else Ok (count n)
count_in _ = Err WrongType

abbrev pub scope_in : Val → Result Held Code
scope_in (vscope bs) = Ok (scope (vscope bs))
scope_in _ = Err WrongType

-- whether strings are one empty string
abbrev pub is_empty : Val → Bool
is_empty (vstr []) = true
is_empty _ = false

abbrev pub are_empty : List Val → Bool
are_empty (v ∷ []) = is_empty v
are_empty _ = false

-- whether a kind runs its script, so that an empty one is none
abbrev pub runs_script : ItemKind → Bool
runs_script Action = true
runs_script ActionForeach = true
runs_script _ = false

-- lists of strings in each form
abbrev pub texts_in : Where → TextForm → List Val → Result Held Code
texts_in w form vs = then_do (λ x. Ok (texts x)) (all_read (text_in w form) [] vs)

abbrev pub paths_in : Where → List Val → Result Held Code
paths_in w vs = then_do (λ x. Ok (paths x)) (all_read (path_in w) [] vs)

abbrev pub labels_in : Where → List Val → Result Held Code
labels_in w vs = then_do (λ x. Ok (labels x)) (all_read (label_in w) [] vs)

abbrev pub patterns_in : Where → List Val → Result Held Code
patterns_in w vs = then_do (λ x. Ok (patterns x)) (all_read (pattern_in w) [] vs)

abbrev pub substs_in : Where → SubstForm → List (List ℕ) → List Val → Result Held Code
substs_in w form sources vs = then_do (λ x. Ok (substs x)) (all_read (subst_as w form sources) [] vs)

abbrev pub script_in : Where → List Val → Result Held Code
script_in w vs = if runs_script w.kind && are_empty vs then Ok (paths []) else paths_in w vs

abbrev pub command_in : Where → List Val → Result Held Code
command_in w vs = if are_empty vs then Ok (substs []) else substs_in w (At ToolText) [] vs

-- the arguments of a script are substitution texts; those of all other kinds aren't looked at
abbrev pub arguments_of : Where → ItemKind → List Val → Result Held Code
arguments_of w Action vs = substs_in w (At ActionArgs) [] vs
arguments_of w ActionForeach vs = substs_in w (At ForeachArgs) [] vs
arguments_of w _ vs = texts_in w forms.Plain vs

-- what strings give, for these sources of the item
abbrev pub strings_in : Where → List (List ℕ) → StringKind → List Val → Result Held Code
strings_in w sources contents.Text vs = texts_in w forms.Plain vs
strings_in w sources contents.Path vs = paths_in w vs
strings_in w sources contents.Script vs = script_in w vs
strings_in w sources contents.Library vs = texts_in w forms.Library vs
strings_in w sources contents.Label vs = labels_in w vs
strings_in w sources contents.Pattern vs = patterns_in w vs
strings_in w sources contents.Argument vs = arguments_of w w.kind vs
strings_in w sources contents.Output vs = substs_in w (File roles.Output) sources vs
strings_in w sources contents.Depfile vs = substs_in w (File roles.Depfile) sources vs
strings_in w sources contents.Command vs = command_in w vs
strings_in w sources (contents.Subst position) vs = substs_in w (At position) [] vs
strings_in w sources contents.DepsFormat vs = texts_in w forms.DepsFormat vs

-- what a value gives as the field of a row of this type, for these sources of the item
unfoldable pub checked : Where → List (List ℕ) → RowType → Val → Result Held Code
checked w sources Boolean v = boolean_in v
checked w sources Count v = count_in v
checked w sources (One content) v = then_do (strings_in w sources content) (one_string v)
checked w sources (Many content) v = then_do (strings_in w sources content) (many_strings v)
checked w sources (OneOrMany content) v = then_do (strings_in w sources content) (one_or_many_strings v)
checked w sources Scope v = scope_in v
checked w sources Unused v = Ok unused
