-- What holds of each environment, of the steps that are done to it, and of what stands around them.
use Rattle.std.specs.Prelude.{◌≡◌, ℕ, Bool, true, false, List, Some, None, Ok, Err, map, option_map}
use Rattle.gn_tree.specs.declared.position.Position.{Position}
use Rattle.gn_values.specs.Val.{Val}
use Rattle.gn_values.specs.Tables.{at_name}
use Rattle.gn_definitions.specs.Imported.{ScopeState, DefinitionState, ImportState}
use Rattle.gn_environment.specs.Layers.{VariableState, LayerState}
use Rattle.gn_environment.specs.Chains.{variable_in, nearest, variable_of, shown, is_declared, read_in}
use Rattle.gn_environment.specs.Assigning.{put}
use Rattle.gn_environment.specs.Environment.{Environment, fixed_value, behind, value_of, entered, left}
use Rattle.gn_environment.specs.Giving.{all_given}
use Rattle.gn_environment.specs.Unread.{stands_before, reported}
use Rattle.gn_environment.specs.Templates.{layers_of, same_place, template_of, scope_here, defaults_among, defaults_of, body_begins, body_ends}
use Rattle.gn_environment.specs.Imports.{is_less, merged}
use Rattle.gn_environment.specs.Declaring.{DeclaresNothing, place_of, declared_here, declaring_entered, arguments_declared}
use Rattle.gn_environment.specs.Surroundings.{surroundings}
use Rattle.gn_environment.specs.Shown.{ScopeIsInOrder, IsUnreadAmong, ConflictsAt}
use Rattle.gn_environment.specs.Within.{IsWithin, AreInOrder}

-- Names that a block of declared arguments declares

-- a name that the first layer which has it doesn't declare is read as it stands there, or else behind the layers
abbrev pub UndeclaredNamesAreRead : Type 0
UndeclaredNamesAreRead = (name : List ℕ) (env : Environment) → is_declared name (layers_of env) ≡ false
    → value_of name env ≡ nearest (option_map (λ (v : VariableState). v.value) (variable_of name (layers_of env))) (fixed_value name (behind env))

-- a name that the innermost scope declares has no value
abbrev pub DeclaredNamesAreNotRead : Type 0
DeclaredNamesAreNotRead = (name : List ℕ) (position : Position) (env : Environment) → declared_here name env ≡ Some position → value_of name env ≡ None

-- the first assignment of a name is where it is declared, in a scope that declares names
abbrev pub FirstAssignmentDeclares : Type 0
FirstAssignmentDeclares = (name : List ℕ) (value : Val) (position : Position) (layer : LayerState) → layer.declares ≡ true
    → variable_in name layer ≡ None → place_of (variable_in name (put name value position layer)) ≡ Some position

-- each further one leaves that place
abbrev pub FurtherAssignmentsLeavePlaces : Type 0
FurtherAssignmentsLeavePlaces = (name : List ℕ) (value : Val) (position : Position) (layer : LayerState) (before : VariableState)
    → variable_in name layer ≡ Some before → place_of (variable_in name (put name value position layer)) ≡ before.declared

-- in any other scope an assignment declares nothing
abbrev pub OtherAssignmentsDeclareNothing : Type 0
OtherAssignmentsDeclareNothing = (name : List ℕ) (value : Val) (position : Position) (layer : LayerState) → layer.declares ≡ false
    → variable_in name layer ≡ None → place_of (variable_in name (put name value position layer)) ≡ None

-- a scope that doesn't declare names has none that is declared after an assignment, nor after names are given to it, nor after a read
abbrev pub AssignedStaysPlain : Type 0
AssignedStaysPlain = (name : List ℕ) (value : Val) (position : Position) (layer : LayerState)
    → DeclaresNothing layer → DeclaresNothing (put name value position layer)

abbrev pub GivenStaysPlain : Type 0
GivenStaysPlain = (entries : List (List ℕ × Val)) (layer : LayerState) → DeclaresNothing layer → DeclaresNothing (all_given entries layer)

abbrev pub ReadStaysPlain : Type 0
ReadStaysPlain = (name : List ℕ) (layer : LayerState) → DeclaresNothing layer → DeclaresNothing (read_in name layer)

-- what a name stands for there is found by a read as it stands
abbrev pub PlainNamesAreShown : Type 0
PlainNamesAreShown = (name : List ℕ) (layer : LayerState) (variable : VariableState) → DeclaresNothing layer
    → variable_in name layer ≡ Some variable → shown variable ≡ Some variable.value

-- Names that faults show

-- what the end of a scope reports is an unread name of a checked scope
abbrev pub ReportedIsUnread : Type 0
ReportedIsUnread = (layer : LayerState) (reported_name : List ℕ × Position) → reported layer ≡ Some reported_name
    → (layer.checked ≡ true) × IsUnreadAmong layer.variables reported_name

-- no other unread name there has a last assignment that stands before it
abbrev pub ReportedIsFirst : Type 0
ReportedIsFirst = (layer : LayerState) (reported_name other : List ℕ × Position) → reported layer ≡ Some reported_name
    → IsUnreadAmong layer.variables other → stands_before other reported_name ≡ false

-- a checked scope that reports nothing has no unread name
abbrev pub UnreadIsReported : Type 0
UnreadIsReported = (layer : LayerState) (other : List ℕ × Position) → layer.checked ≡ true → reported layer ≡ None → IsUnreadAmong layer.variables other → ⊥

-- where the merge of an import is refused at a name, the innermost scope has something else there
abbrev pub RefusedNamesConflict : Type 0
RefusedNamesConflict = (value : ImportState) (env : Environment) (name : List ℕ) → merged value env ≡ Err name → ConflictsAt value env name

-- where what the import left is in the order of its names, no lesser name is such a one
abbrev pub LeastNameIsRefused : Type 0
LeastNameIsRefused = (value : ImportState) (env : Environment) (name other : List ℕ) → ScopeIsInOrder value.scope
    → merged value env ≡ Err name → ConflictsAt value env other → is_less other name ≡ false

-- a merge that isn't refused has no such name
abbrev pub ConflictsAreRefused : Type 0
ConflictsAreRefused = (value : ImportState) (env after : Environment) (other : List ℕ) → merged value env ≡ Ok after → ConflictsAt value env other → ⊥

-- Templates

-- while the body of a template runs, or that of one that was defined in it, a name calls no template that was defined at its place
abbrev pub TemplatesAreHidden : Type 0
TemplatesAreHidden = (outermost body found : DefinitionState) (name : List ℕ) (env : Environment) → IsWithin outermost body
    → env.body ≡ Some body → template_of name env ≡ Some found → same_place found.place outermost.place ≡ false

-- where a template is defined, a name that is declared is neither found nor kept
abbrev pub DeclaredIsNotKept : Type 0
DeclaredIsNotKept = (name : List ℕ) (env : Environment) → is_declared name (layers_of env) ≡ true
    → (value_of name env ≡ None) × (at_name name (scope_here env).variables ≡ None)

-- what a read finds there at another name is what the definition keeps or, where it keeps nothing, what stands beneath the evaluation
abbrev pub ReadIsKept : Type 0
ReadIsKept = (name : List ℕ) (env : Environment) → AreInOrder (layers_of env) → is_declared name (layers_of env) ≡ false
    → value_of name env ≡ nearest (at_name name (scope_here env).variables) (fixed_value name env.beneath)

-- the same of the defaults of each kind of call
abbrev pub DefaultsAreKept : Type 0
DefaultsAreKept = (kind : List ℕ) (env : Environment) → AreInOrder (layers_of env) → defaults_of kind env
    ≡ nearest (at_name kind (scope_here env).defaults) (defaults_among kind (map (λ (s : ScopeState). s.defaults) env.beneath))

-- What stands around a scope

-- what leaves what stands around a scope that opened, leaves with the scope's end what stood around the scope before it
abbrev pub ScopeLeavesSurroundings : Type 0
ScopeLeavesSurroundings = (checked : Bool) (env after : Environment)
    → surroundings after ≡ surroundings (entered checked env) → surroundings (left after) ≡ surroundings env

abbrev pub DeclaringScopeLeavesSurroundings : Type 0
DeclaringScopeLeavesSurroundings = (env after : Environment)
    → surroundings after ≡ surroundings (declaring_entered env) → surroundings (left after) ≡ surroundings env

-- the same where the scope's end sets its arguments around it
abbrev pub DeclaredArgumentsLeaveSurroundings : Type 0
DeclaredArgumentsLeaveSurroundings = (position : Position) (env after last : Environment) → surroundings after ≡ surroundings (declaring_entered env)
    → arguments_declared position after ≡ Ok last → surroundings last ≡ surroundings env

-- the same of the body of a template, whose end is that of the scope of its call's block too
abbrev pub BodyLeavesSurroundings : Type 0
BodyLeavesSurroundings = (definition : DefinitionState) (name : List ℕ) (env after : Environment)
    → surroundings after ≡ surroundings (body_begins definition name env) → surroundings (body_ends after) ≡ surroundings (left env)
