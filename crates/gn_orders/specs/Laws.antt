-- What evaluations and executions leave where all is in order at their beginning.
use Rattle.std.specs.Prelude.{◌≡◌, ℕ, false, List, map, Option, Some, Err}
use Rattle.gn_tree.specs.Tree.{ExprTree, CallTree, BlockTree}
use Rattle.gn_values.specs.Val.{Val}
use Rattle.gn_values.specs.Tables.{Table, at_name}
use Rattle.gn_definitions.specs.Imported.{ScopeState, ImportState}
use Rattle.gn_faults.specs.declared.file_kind.FileKind.{FileKind}
use Rattle.gn_items.specs.Effects.{Effects}
use Rattle.gn_items.specs.declared.key.When.{When}
use Rattle.gn_runs.specs.Runs.{Content, has_value, Answers, ended}
use Rattle.gn_imports.specs.Rounds.{Project, final}
use Rattle.gn_environment.specs.declared.context.Context.{Context}
use Rattle.gn_environment.specs.Chains.{nearest, is_declared}
use Rattle.gn_environment.specs.Environment.{Environment, fixed_value, value_of}
use Rattle.gn_environment.specs.Templates.{layers_of, scope_here, defaults_among, defaults_of}
use Rattle.gn_environment.specs.Imports.{is_less, merged}
use Rattle.gn_environment.specs.Shown.{IsInOrder, ConflictsAt}
use Rattle.gn_meaning.specs.Steps.{Left}
use Rattle.gn_meaning.specs.Meaning.{expr_runs, call_runs, block_runs, world}
use Rattle.gn_executions.specs.declared.host.HostNames.{HostNames}
use Rattle.gn_executions.specs.Base.{BaseState, setup_base, finished_base}
use Rattle.gn_executions.specs.Units.{import_execution, import_meaning, load_execution}
use Rattle.gn_executions.specs.Setups.{setup_execution}
use Rattle.gn_executions.specs.Alone.{alone_runs, arguments_runs}
use Rattle.gn_orders.specs.InOrder.{IsOrdered, IsImportInOrder, AreAnswersInOrder, IsBaseInOrder}

-- Evaluations

-- a block that ends leaves an environment in order that it found in order, however deep it nests and however many calls of templates may still open
abbrev pub BlocksStayInOrder : Type 0
BlocksStayInOrder =
    (room nesting : ℕ) (answers : Answers) (block : BlockTree) (env : Environment) (out : Effects) (left : Left (Unit {0}))
    → AreAnswersInOrder answers → IsOrdered env → (block_runs (world room answers) nesting block env out).end ≡ ended left → IsOrdered left.environment

-- the same of an expression that has a value
abbrev pub ExpressionsStayInOrder : Type 0
ExpressionsStayInOrder =
    (room nesting : ℕ) (answers : Answers) (expression : ExprTree) (env : Environment) (out : Effects) (left : Left Val)
    → AreAnswersInOrder answers → IsOrdered env → (expr_runs (world room answers) nesting expression env out).end ≡ ended left → IsOrdered left.environment

-- the same of a call
abbrev pub CallsStayInOrder : Type 0
CallsStayInOrder =
    (room nesting : ℕ) (answers : Answers) (call : CallTree) (env : Environment) (out : Effects) (left : Left (Option Val))
    → AreAnswersInOrder answers → IsOrdered env → (call_runs (world room answers) nesting call env out).end ≡ ended left → IsOrdered left.environment

-- Executions

-- an import that ends leaves its scope in order, and what it leaves to those who import it is in order too
abbrev pub ImportsEndInOrder : Type 0
ImportsEndInOrder =
    (base : BaseState) (when : When) (toolchain path : List ℕ) (answers : Answers) (left : Left ImportState)
    → IsBaseInOrder base → AreAnswersInOrder answers → (import_execution base when toolchain path answers).end ≡ ended left
    → IsOrdered left.environment × IsImportInOrder left.value

-- so what is told of an import to those who import it is in order, where what it was told is so
abbrev pub ImportValuesAreInOrder : Type 0
ImportValuesAreInOrder =
    (base : BaseState) (when : When) (toolchain path : List ℕ) (answers : Answers) (value : ImportState)
    → IsBaseInOrder base → AreAnswersInOrder answers → (import_meaning base when toolchain path answers).end ≡ ended value → IsImportInOrder value

-- a build configuration ends as an import does
abbrev pub SetupsEndInOrder : Type 0
SetupsEndInOrder =
    (base : BaseState) (toolchain : List ℕ) (answers : Answers) (left : Left ImportState)
    → IsBaseInOrder base → AreAnswersInOrder answers → (setup_execution base toolchain answers).end ≡ ended left
    → IsOrdered left.environment × IsImportInOrder left.value

-- a build file
abbrev pub LoadsEndInOrder : Type 0
LoadsEndInOrder =
    (base : BaseState) (directory toolchain : List ℕ) (answers : Answers) (left : Left (Unit {0}))
    → IsBaseInOrder base → AreAnswersInOrder answers → (load_execution base directory toolchain answers).end ≡ ended left → IsOrdered left.environment

-- a file that stands alone, as the dotfile: nothing is asked of what is in order
abbrev pub FilesAloneEndInOrder : Type 0
FilesAloneEndInOrder =
    (host : HostNames) (context : Context) (kind : FileKind) (file : List ℕ) (content : Content) (left : Left (Unit {0}))
    → (alone_runs host context kind file content).end ≡ ended left → IsOrdered left.environment

-- the names and values of build arguments
abbrev pub ArgumentsAreInOrder : Type 0
ArgumentsAreInOrder =
    (host : HostNames) (context : Context) (file : List ℕ) (content : Content) (left : Left (Table Val))
    → (arguments_runs host context file content).end ≡ ended left → IsInOrder left.value

-- Bases

abbrev pub EarlyBasesAreInOrder : Type 0
EarlyBasesAreInOrder = (context : Context) (host : HostNames) (configuration : List ℕ) (secondary : Option (List ℕ)) → IsBaseInOrder (setup_base context host configuration secondary)

-- that of the files over what a build configuration has left
abbrev pub LaterBasesAreInOrder : Type 0
LaterBasesAreInOrder = (base : BaseState) (context : Context) (left : ImportState) → IsImportInOrder left → IsBaseInOrder (finished_base base context left)

-- Answers

-- the answers that everything in a project gets whose imports end as their executions over a base that is in order do
abbrev pub FinalAnswersAreInOrder : Type 0
FinalAnswersAreInOrder =
    (project : Project) (base : BaseState) (when : When) (toolchain : List ℕ)
    → ((path : List ℕ) (answers : Answers) → (project.execute path answers).end ≡ (import_meaning base when toolchain path answers).end)
    → IsBaseInOrder base → AreAnswersInOrder (final project)

-- What follows

-- no lesser name than the one that is shown is one at which an import that is known conflicts
abbrev pub LeastConflictsAreShown : Type 0
LeastConflictsAreShown =
    (answers : Answers) (path : List ℕ) (value : ImportState) (env : Environment) (name other : List ℕ)
    → AreAnswersInOrder answers → answers.imports path ≡ Some (has_value value) → merged value env ≡ Err name → ConflictsAt value env other → is_less other name ≡ false

-- where a block has ended that found all in order: what a read finds at a name that isn't declared there is what a definition keeps that is made there,
-- or what stands beneath
abbrev pub DefinitionsKeepReads : Type 0
DefinitionsKeepReads =
    (room nesting : ℕ) (answers : Answers) (block : BlockTree) (env : Environment) (out : Effects) (left : Left (Unit {0})) (name : List ℕ)
    → AreAnswersInOrder answers → IsOrdered env → (block_runs (world room answers) nesting block env out).end ≡ ended left → is_declared name (layers_of left.environment) ≡ false
    → value_of name left.environment ≡ nearest (at_name name (scope_here left.environment).variables) (fixed_value name left.environment.beneath)

-- the same of the defaults of a kind of call
abbrev pub DefinitionsKeepDefaults : Type 0
DefinitionsKeepDefaults =
    (room nesting : ℕ) (answers : Answers) (block : BlockTree) (env : Environment) (out : Effects) (left : Left (Unit {0})) (kind : List ℕ)
    → AreAnswersInOrder answers → IsOrdered env → (block_runs (world room answers) nesting block env out).end ≡ ended left
    → defaults_of kind left.environment
    ≡ nearest (at_name kind (scope_here left.environment).defaults) (defaults_among kind (map (λ (s : ScopeState). s.defaults) left.environment.beneath))
