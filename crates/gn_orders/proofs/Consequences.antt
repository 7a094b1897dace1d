-- The laws of blocks, expressions and calls, and what follows for names that are shown and for what definitions keep.
use Rattle.std.proofs.Common.{List, [], ◌∷◌, Option}
use Rattle.std.specs.List.{AllByRecursion}
use Rattle.gn_values.specs.Val.{Val}
use Rattle.gn_definitions.specs.Imported.{ScopeState}
use Rattle.gn_environment.specs.Layers.{LayerState}
use Rattle.gn_environment.specs.Environment.{Environment}
use Rattle.gn_environment.specs.Templates.{layers_of}
use Rattle.gn_environment.specs.Shown.{ScopeIsInOrder}
use Rattle.gn_environment.specs.Within.{AreInOrder}
use Rattle.gn_environment.proofs.KeptScopes.{read_is_kept, defaults_are_kept}
use Rattle.gn_environment.proofs.ShownNames.{shown_is_least}
use Rattle.gn_meaning.specs.Steps.{Left}
use Rattle.gn_meaning.specs.Meaning.{expr_runs, call_runs, block_runs, world}
use Rattle.gn_orders.specs.InOrder.{IsLayerInOrder, IsScopeInOrder, IsOrdered}
use Rattle.gn_orders.specs.Laws.{BlocksStayInOrder, ExpressionsStayInOrder, CallsStayInOrder, LeastConflictsAreShown, DefinitionsKeepReads, DefinitionsKeepDefaults}
use Rattle.gn_orders.proofs.Ends.{Keeps, of_end}
use Rattle.gn_orders.proofs.Blocks.{block_keeps, expr_keeps, call_keeps, calls_keep}

pub blocks_so : BlocksStayInOrder
blocks_so room n a b env out l i o e =
    of_end (λ (k : Left (Unit {0})). Keeps env k.environment) (block_runs (world room a) n b env out) l (block_keeps room a i (calls_keep room a i) n b env out) e o

pub expressions_so : ExpressionsStayInOrder
expressions_so room n a x env out l i o e =
    of_end (λ (k : Left Val). Keeps env k.environment) (expr_runs (world room a) n x env out) l (expr_keeps room a i (calls_keep room a i) n x env out) e o

pub calls_so : CallsStayInOrder
calls_so room n a c env out l i o e =
    of_end (λ (k : Left (Option Val)). Keeps env k.environment) (call_runs (world room a) n c env out) l (call_keeps room a i (calls_keep room a i) n c env out) e o

scope_is_in_order : (scope : ScopeState) → IsScopeInOrder scope → ScopeIsInOrder scope
scope_is_in_order scope s = record { variables = s.variables; templates = s.templates; defaults = s.defaults.names }

pub least_conflicts_so : LeastConflictsAreShown
least_conflicts_so answers path value env name other i known e c = shown_is_least value env (scope_is_in_order value.scope (i path value known).scope) name other e c

layers_so : (ls : List LayerState) → AllByRecursion IsLayerInOrder ls → AreInOrder ls
layers_so [] all = tt
layers_so (l ∷ ls) all = ((all.0.variables, all.0.defaults.names), layers_so ls all.1)

environment_so : (env : Environment) → IsOrdered env → AreInOrder (layers_of env)
environment_so env o = layers_so (layers_of env) (o.chain.inner, o.chain.outer)

pub reads_so : DefinitionsKeepReads
reads_so room n a b env out l name i o e d = read_is_kept name l.environment (environment_so l.environment (blocks_so room n a b env out l i o e)) d

pub defaults_so : DefinitionsKeepDefaults
defaults_so room n a b env out l kind i o e = defaults_are_kept kind l.environment (environment_so l.environment (blocks_so room n a b env out l i o e))
