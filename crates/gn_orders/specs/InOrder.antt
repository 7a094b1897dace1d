-- Environments all of whose tables stand in the order of their names, and answers that bring nothing else.
use Rattle.std.specs.Prelude.{◌≡◌, ℕ, List, Option, Some, None}
use Rattle.std.specs.List.{AllByRecursion}
use Rattle.gn_values.specs.Tables.{Table}
use Rattle.gn_definitions.specs.Imported.{ScopeState, DefinitionState, MadeBy, ImportState}
use Rattle.gn_runs.specs.Runs.{has_value, Answers}
use Rattle.gn_environment.specs.Layers.{LayerState, ChainState}
use Rattle.gn_environment.specs.Environment.{Caller, Environment}
use Rattle.gn_environment.specs.Shown.{IsInOrder}
use Rattle.gn_executions.specs.Base.{BaseState}

-- a table in the order of its names, of each entry of which this holds
pub record IsTableOf {A : Type 0} (P : A → Type 0) (table : Table A) : Type 0 where
  pub names : IsInOrder table
  pub entries : AllByRecursion (λ (e : List ℕ × A). P e.1) table

-- a layer: its variables, its templates, and its defaults, which are tables each
pub record IsLayerInOrder (layer : LayerState) : Type 0 where
  pub variables : IsInOrder layer.variables
  pub templates : IsInOrder layer.templates
  pub defaults : IsTableOf IsInOrder layer.defaults

pub record IsChainInOrder (chain : ChainState) : Type 0 where
  pub inner : IsLayerInOrder chain.inner
  pub outer : AllByRecursion IsLayerInOrder chain.outer

-- a scope that is kept or left: the same three
pub record IsScopeInOrder (scope : ScopeState) : Type 0 where
  pub variables : IsInOrder scope.variables
  pub templates : IsInOrder scope.templates
  pub defaults : IsTableOf IsInOrder scope.defaults

-- a definition keeps such a scope
abbrev pub IsKeptInOrder : DefinitionState → Type 0
IsKeptInOrder definition = IsScopeInOrder definition.scope

-- the definition whose body runs, if it is one
abbrev pub IsBodyInOrder : Option DefinitionState → Type 0
IsBodyInOrder None = Unit {0}
IsBodyInOrder (Some definition) = IsKeptInOrder definition

-- definitions that an execution made
abbrev pub AreMadeInOrder : List DefinitionState → Type 0
AreMadeInOrder made = AllByRecursion IsKeptInOrder made

-- definitions by the names of the executions that made them
abbrev pub AreKnownInOrder : MadeBy → Type 0
AreKnownInOrder definitions = IsTableOf AreMadeInOrder definitions

pub record IsCallerInOrder (caller : Caller) : Type 0 where
  pub chain : IsChainInOrder caller.chain
  pub body : IsBodyInOrder caller.body

-- every table of an environment: of its layers, of those of its callers, of all that is kept, and of what stands beneath
pub record IsOrdered (env : Environment) : Type 0 where
  pub chain : IsChainInOrder env.chain
  pub body : IsBodyInOrder env.body
  pub callers : AllByRecursion IsCallerInOrder env.callers
  pub beneath : AllByRecursion IsScopeInOrder env.beneath
  pub made : AreMadeInOrder env.made
  pub definitions : AreKnownInOrder env.definitions

-- every table of what an import leaves
pub record IsImportInOrder (value : ImportState) : Type 0 where
  pub scope : IsScopeInOrder value.scope
  pub definitions : AreKnownInOrder value.definitions

-- answers in which each import that has a value is so
abbrev pub AreAnswersInOrder : Answers → Type 0
AreAnswersInOrder answers = (path : List ℕ) (value : ImportState) → answers.imports path ≡ Some (has_value value) → IsImportInOrder value

-- every table of what stands beneath the files of a base
pub record IsBaseInOrder (base : BaseState) : Type 0 where
  pub beneath : AllByRecursion IsScopeInOrder base.beneath
  pub definitions : AreKnownInOrder base.definitions
