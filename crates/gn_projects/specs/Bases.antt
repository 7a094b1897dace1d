-- What evaluations see of the units that are done: the default toolchain, the definition of another one, and what the build configuration has left.
use Rattle.std.specs.Prelude.{ℕ, Bool, List, [], ◌∷◌, ◌&&◌, Option, Some, None, if◌then◌else◌}
use Rattle.std.specs.Str.{bytes_eq}
use Rattle.gn_rows.specs.declared.variable.Variable.TheVariants.{ToolchainArgs}
use Rattle.gn_values.specs.Val.{Val, vbool, vint, vstr, vlist, vscope, entries_of}
use Rattle.gn_values.specs.Tables.{Table}
use Rattle.gn_define.specs.Fields.{field_at, scope_of}
use Rattle.gn_items.specs.declared.item.Item.{Item}
use Rattle.gn_environment.specs.declared.context.Context.{Context}
use Rattle.gn_executions.specs.Base.{BaseState, default_context, other_context, finished_base}
use Rattle.gn_runs.specs.Runs.{End, ended, wrong, spoiled, needs}
use Rattle.gn_closure.specs.Reach.{Unit_key, Setup, Load}
use Rattle.gn_graph.specs.Needs.{home}
use Rattle.gn_core.specs.Keys.{Layer, early, usual, Unit_of, Answer, found, import_is, no_value, unit_is, record_is, Filed, Leaving, UnitLeft}
use Rattle.gn_projects.specs.Files.{beneath_of}
use Rattle.gn_projects.specs.Needs.{is_toolchain, toolchain_name}

-- what a unit has left, where it is done
abbrev pub left_of : {A : Type 0} → End A → Option A
left_of (ended left) = Some left
left_of (wrong fault) = None
left_of (spoiled path place) = None
left_of (needs question place) = None

abbrev pub left_in : Option Answer → Option (Leaving UnitLeft)
left_in None = None
left_in (Some (found content)) = None
left_in (Some (import_is run)) = None
left_in (Some (no_value path place asked)) = None
left_in (Some (unit_is run)) = left_of run.end
left_in (Some (record_is bytes)) = None

abbrev pub left_at : Filed → Unit_key → Option (Leaving UnitLeft)
left_at filed k = left_in (filed (Unit_of k))

-- the default toolchain, as the build configuration names it that has left this; none where there is no such
abbrev pub default_by : Leaving UnitLeft → List ℕ
default_by left = left.value.needs.default

abbrev pub default_in : Option (Leaving UnitLeft) → List ℕ
default_in (Some left) = default_by left
default_in None = []

-- the first of these items that defines a toolchain
abbrev pub is_definition : List ℕ → Item → Bool
is_definition toolchain item = is_toolchain item.kind && bytes_eq (toolchain_name item) toolchain

abbrev pub definition_among : List ℕ → List Item → Option Item
definition_among toolchain [] = None
definition_among toolchain (item ∷ items) = if is_definition toolchain item then Some item else definition_among toolchain items

-- the values that a toolchain gives to build arguments: its `toolchain_args`
abbrev pub entries_in : Option Val → Table Val
entries_in None = []
entries_in (Some (vbool b)) = []
entries_in (Some (vint n)) = []
entries_in (Some (vstr text)) = []
entries_in (Some (vlist items)) = []
entries_in (Some (vscope entries)) = entries_of entries

abbrev pub arguments_of : Option Item → Table Val
arguments_of None = []
arguments_of (Some item) = entries_in (scope_of (field_at item.fields ToolchainArgs))

-- those of a toolchain whose file has left this
abbrev pub arguments_by : List ℕ → Option (Leaving UnitLeft) → Table Val
arguments_by toolchain None = []
arguments_by toolchain (Some left) = arguments_of (definition_among toolchain left.effects.items)

-- the context of the evaluations under another toolchain than the default one: its own arguments win over all others
abbrev pub context_under : Context → List ℕ → List ℕ → Option (Leaving UnitLeft) → Context
context_under context default toolchain file = other_context toolchain (arguments_by toolchain file) (default_context default context)

-- the base of its build configuration, and of the files which that imports, behind the build configuration of the default toolchain
abbrev pub other_base : BaseState → Filed → List ℕ → Option (Leaving UnitLeft) → BaseState
other_base start filed toolchain None = start
other_base start filed toolchain (Some left) =
    record start { context = context_under start.context (default_by left) toolchain (left_at filed (Load (home toolchain) (default_by left))) }

-- the base of a build configuration: the empty text names the default toolchain, with whose build configuration the build starts
abbrev pub early_base : BaseState → Filed → List ℕ → BaseState
early_base start filed toolchain = if bytes_eq toolchain [] then start else other_base start filed toolchain (left_at filed (Setup []))

-- the base of the files behind a build configuration, with what that has left beneath them
abbrev pub behind : BaseState → Option (Leaving UnitLeft) → BaseState
behind base None = base
behind base (Some left) = finished_base base base.context (beneath_of left.value.beneath)

abbrev pub usual_behind : BaseState → Filed → List ℕ → Option (Leaving UnitLeft) → BaseState
usual_behind start filed toolchain None = start
usual_behind start filed toolchain (Some left) =
    if bytes_eq toolchain (default_by left)
    then finished_base start (default_context (default_by left) start.context) (beneath_of left.value.beneath)
    else behind (early_base start filed toolchain) (left_at filed (Setup toolchain))

abbrev pub usual_base : BaseState → Filed → List ℕ → BaseState
usual_base start filed toolchain = usual_behind start filed toolchain (left_at filed (Setup []))

-- the base of the evaluations of a layer, over what is filed
abbrev pub base_of_layer : BaseState → Filed → Layer → BaseState
base_of_layer start filed (early toolchain) = early_base start filed toolchain
base_of_layer start filed (usual toolchain) = usual_base start filed toolchain
