-- Imports, forwarding, reads of the invoker and declared arguments leave an environment in order that they find in order.
use Rattle.std.proofs.Common.{ℕ, true, false, if◌then◌else◌, List, [], ◌∷◌, map, Option, Some, None, Result, Ok, Err, find}
use Rattle.std.specs.List.{AllByRecursion}
use Rattle.gn_tree.specs.declared.position.Position.{Position}
use Rattle.gn_values.specs.Val.{Val}
use Rattle.gn_values.specs.Tables.{Table}
use Rattle.gn_definitions.specs.Imported.{ScopeState, ImportState}
use Rattle.gn_environment.specs.Layers.{LayerState}
use Rattle.gn_environment.specs.Chains.{read_in, all_read, all_read_but, names_read, is_one_of, chain_read}
use Rattle.gn_environment.specs.Environment.{Caller, Environment, left, given}
use Rattle.gn_environment.specs.Templates.{with_caller, in_block}
use Rattle.gn_environment.specs.Invoker.{invoker_entries, after_invoker_entry_read, after_invoker_read, after_invoker_read_but, after_invoker_names_read, behind_first, after_outer_invoker_read, after_caller_read}
use Rattle.gn_environment.specs.Forwarding.{Origin, from_entries, from_invoker, origin_value, origin_read, forwarded_names, given_if, names_given, is_set_here, forwarded_unless, names_forwarded, entries_given, target_name, all_forwarded, after_names_read_here, after_all_read_here}
use Rattle.gn_environment.specs.Declaring.{declared_in, name_declared, brought, places_brought, brought_if, import_brought, names_brought, names_of_all, all_brought, ArgumentState, arguments_here, taken, argument_given, arguments_set, arguments_declared}
use Rattle.gn_environment.specs.Imports.{import_left, configuration_left, knowing, conflict_in, values_given, with_imported_calls, with_import, merged_unless, merged}
use Rattle.gn_orders.specs.InOrder.{IsLayerInOrder, IsScopeInOrder, IsCallerInOrder, IsOrdered, IsImportInOrder}
use Rattle.gn_orders.proofs.Tables.{all_set_in_order, table_all_set, table_new_set, table_set}
use Rattle.gn_orders.proofs.Layers.{read_in_so, chain_read_so, all_read_so, all_read_but_so, names_read_so, declared_so, block_so, scope_left_so, whole_scope_so}
use Rattle.gn_orders.proofs.Environments.{Keeps, IsKept, with_layers, with_callers, callers_so, given_keeps, left_keeps}

-- Reads of many names

in_block_keeps : (change : LayerState → LayerState) → ((layer : LayerState) → IsLayerInOrder layer → IsLayerInOrder (change layer)) → (env : Environment) → Keeps env (record env { chain = in_block change env.chain })
in_block_keeps change k env = with_layers (in_block change env.chain) env (block_so change k env.chain)

pub names_read_here_keep : (names except : List (List ℕ)) (env : Environment) → Keeps env (after_names_read_here names except env)
unfolding after_names_read_here
names_read_here_keep names except env = in_block_keeps (names_read names except) (names_read_so names except) env

pub all_read_here_keeps : (except : List (List ℕ)) (env : Environment) → Keeps env (after_all_read_here except env)
unfolding after_all_read_here
all_read_here_keeps except env = in_block_keeps (all_read_but except) (all_read_but_so except) env

-- Reads where a template was called

caller_read_keeps : (name : List ℕ) (env : Environment) → Keeps env (after_caller_read name env)
unfolding after_caller_read
caller_read_keeps name env = with_callers (with_caller (chain_read name) env.callers) env (callers_so (chain_read name) (chain_read_so name) env.callers)

invoker_keeps : (change : LayerState → LayerState) → ((layer : LayerState) → IsLayerInOrder layer → IsLayerInOrder (change layer)) → (env : Environment) → Keeps env (record env { callers = with_caller (in_block change) env.callers })
invoker_keeps change k env = with_callers (with_caller (in_block change) env.callers) env (callers_so (in_block change) (block_so change k) env.callers)

pub invoker_entry_read_keeps : (name : List ℕ) (env : Environment) → Keeps env (after_invoker_entry_read name env)
unfolding after_invoker_entry_read
invoker_entry_read_keeps name env = invoker_keeps (read_in name) (read_in_so name) env

pub invoker_read_keeps : (env : Environment) → Keeps env (after_invoker_read env)
unfolding after_invoker_read
invoker_read_keeps env = invoker_keeps all_read all_read_so env

pub invoker_read_but_keeps : (except : List (List ℕ)) (env : Environment) → Keeps env (after_invoker_read_but except env)
unfolding after_invoker_read_but
invoker_read_but_keeps except env = invoker_keeps (all_read_but except) (all_read_but_so except) env

pub invoker_names_read_keep : (names except : List (List ℕ)) (env : Environment) → Keeps env (after_invoker_names_read names except env)
unfolding after_invoker_names_read
invoker_names_read_keep names except env = invoker_keeps (names_read names except) (names_read_so names except) env

behind_so : (change : List Caller → List Caller) → ((cs : List Caller) → AllByRecursion IsCallerInOrder cs → AllByRecursion IsCallerInOrder (change cs)) → (cs : List Caller) → AllByRecursion IsCallerInOrder cs → AllByRecursion IsCallerInOrder (behind_first change cs)
behind_so change k [] all = tt
behind_so change k (c ∷ cs) all = (all.0, k cs all.1)

pub outer_invoker_read_keeps : (env : Environment) → Keeps env (after_outer_invoker_read env)
unfolding after_outer_invoker_read
outer_invoker_read_keeps env =
    let change : List Caller → List Caller = with_caller (in_block all_read) in
    with_callers (behind_first change env.callers) env (behind_so change (callers_so (in_block all_read) (block_so all_read all_read_so)) env.callers)

-- Forwarding

origin_read_keeps : (origin : Origin) (name : List ℕ) (env : Environment) → Keeps env (origin_read origin name env)
origin_read_keeps (from_entries entries) name env = λ o. o
origin_read_keeps (from_invoker outer) name env = caller_read_keeps name env

given_if_keeps : (name : List ℕ) (v : Option Val) (env : Environment) → Keeps env (given_if name v env)
given_if_keeps name None env = λ o. o
given_if_keeps name (Some v) env = given_keeps name v env

names_given_keep : (value : List ℕ → Option Val) (origin : Origin) (names : List (List ℕ)) (env : Environment) → Keeps env (names_given value origin names env)
names_given_keep value origin [] env o = o
names_given_keep value origin (n ∷ ns) env o =
    names_given_keep value origin ns (given_if n (value n) (origin_read origin n env)) (given_if_keeps n (value n) (origin_read origin n env) (origin_read_keeps origin n env o))

unless_keeps : (name : Option (List ℕ)) (env after : Environment) → Keeps env after → IsKept env (forwarded_unless name after)
unless_keeps None env after h = h
unless_keeps (Some name) env after h = tt

names_forwarded_keep : (origin : Origin) (names except : List (List ℕ)) (env : Environment) → IsKept env (names_forwarded origin names except env)
unfolding names_forwarded
names_forwarded_keep origin names except env =
    unless_keeps (find (is_set_here env) (forwarded_names origin names except env)) env (names_given (origin_value origin env) origin (forwarded_names origin names except env) env) (names_given_keep (origin_value origin env) origin (forwarded_names origin names except env) env)

entries_given_keep : (except : List (List ℕ)) (entries : Table Val) (env : Environment) → Keeps env (entries_given except entries env)
entries_given_keep except [] env = λ o. o
entries_given_keep except (e ∷ es) env =
    elim (is_one_of e.0 except) as (λ b. Keeps env (entries_given except es (if b then env else given e.0 e.1 env))) [ true ↦ entries_given_keep except es env | false ↦ λ o. entries_given_keep except es (given e.0 e.1 env) (given_keeps e.0 e.1 env o) ]

all_forwarded_keep : (origin : Origin) (except : List (List ℕ)) (env : Environment) → Keeps env (all_forwarded origin except env)
unfolding all_forwarded
all_forwarded_keep (from_entries entries) except env = entries_given_keep (target_name ∷ except) entries env
all_forwarded_keep (from_invoker outer) except env = λ o.
    entries_given_keep (target_name ∷ except) (invoker_entries env) (after_invoker_read env) (invoker_read_keeps env o)

-- Imports

pub import_left_so : (env : Environment) → IsOrdered env → IsImportInOrder (import_left env)
unfolding import_left
import_left_so env o = record {
  scope = scope_left_so env.chain.inner o.chain.inner;
  definitions = table_set env.execution env.made env.definitions o.made o.definitions;
}

pub configuration_left_so : (env : Environment) → IsOrdered env → IsImportInOrder (configuration_left env)
unfolding configuration_left
configuration_left_so env o = record {
  scope = whole_scope_so env.chain.inner o.chain.inner;
  definitions = table_set env.execution env.made env.definitions o.made o.definitions;
}

values_given_keep : (values : Table Val) (env : Environment) → Keeps env (values_given values env)
values_given_keep [] env o = o
values_given_keep (e ∷ es) env o = values_given_keep es (given e.0 e.1 env) (given_keeps e.0 e.1 env o)

calls_so : (scope : ScopeState) → IsScopeInOrder scope → (layer : LayerState) → IsLayerInOrder layer → IsLayerInOrder (with_imported_calls scope layer)
calls_so scope s layer l = record {
  variables = l.variables;
  templates = all_set_in_order scope.templates layer.templates l.templates;
  defaults = table_all_set scope.defaults layer.defaults s.defaults.entries l.defaults;
}

import_keeps : (value : ImportState) (env : Environment) → IsImportInOrder value → Keeps env (with_import value env)
import_keeps value env i o =
    in_block_keeps (with_imported_calls value.scope) (calls_so value.scope i.scope) (values_given value.scope.variables env) (values_given_keep value.scope.variables env o)

known_keeps : (value : ImportState) (env : Environment) → IsImportInOrder value → Keeps env (knowing value env)
known_keeps value env i o = record {
  chain = o.chain;
  body = o.body;
  callers = o.callers;
  beneath = o.beneath;
  made = o.made;
  definitions = table_new_set value.definitions env.definitions i.definitions.entries o.definitions;
}

merged_unless_keeps : (name : Option (List ℕ)) (env after : Environment) → Keeps env after → IsKept env (merged_unless name after)
merged_unless_keeps None env after h = h
merged_unless_keeps (Some name) env after h = tt

merged_keeps : (value : ImportState) (env : Environment) → IsImportInOrder value → IsKept env (merged value env)
unfolding merged
merged_keeps value env i =
    merged_unless_keeps (conflict_in value (knowing value env) env.chain.inner) env (with_import value (knowing value env)) (λ o. import_keeps value (knowing value env) i (known_keeps value env i o))

-- Declared arguments

name_declared_keeps : (name : List ℕ) (position : Position) (env : Environment) → Keeps env (name_declared name position env)
unfolding name_declared
name_declared_keeps name position env = in_block_keeps (declared_in name position) (declared_so name position) env

brought_keep : (places : List (List ℕ × Position)) (env : Environment) → Keeps env (brought places env)
brought_keep [] env o = o
brought_keep (p ∷ ps) env o = brought_keep ps (name_declared p.0 p.1 env) (name_declared_keeps p.0 p.1 env o)

brought_if_keeps : (places : List (List ℕ × Position)) (env : Environment) (r : Result Environment (List ℕ)) → IsKept env r → IsKept env (brought_if places r)
brought_if_keeps places env (Ok after) h = λ o. brought_keep places after (h o)
brought_if_keeps places env (Err name) h = tt

pub import_brought_keeps : (position : Position) (value : ImportState) (env : Environment) → IsImportInOrder value → IsKept env (import_brought position value env)
unfolding import_brought
import_brought_keeps position value env i = brought_if_keeps (places_brought position env (map (λ (v : List ℕ × Val). v.0) value.scope.variables)) env (merged value env) (merged_keeps value env i)

pub names_brought_keep : (position : Position) (origin : Origin) (names except : List (List ℕ)) (env : Environment) → IsKept env (names_brought position origin names except env)
unfolding names_brought
names_brought_keep position origin names except env =
    brought_if_keeps (places_brought position env (forwarded_names origin names except env)) env (names_forwarded origin names except env) (names_forwarded_keep origin names except env)

pub all_brought_keep : (position : Position) (origin : Origin) (except : List (List ℕ)) (env : Environment) → Keeps env (all_brought position origin except env)
unfolding all_brought
all_brought_keep position origin except env o =
    brought_keep (places_brought position env (names_of_all origin except env)) (all_forwarded origin except env) (all_forwarded_keep origin except env o)

arguments_set_keep : (overrides : Table Val) (arguments : List ArgumentState) (env env1 : Environment) → Keeps env env1 → IsKept env (arguments_set overrides arguments env1)
arguments_set_keep overrides [] env env1 h = h
arguments_set_keep overrides (a ∷ rest) env env1 h =
    elim (is_set_here env1 a.name) as (λ b. IsKept env (if b then Err a.name else arguments_set overrides rest (argument_given overrides a env1))) [ true ↦ tt | false ↦ arguments_set_keep overrides rest env (argument_given overrides a env1) (λ o. name_declared_keeps a.name a.position (given a.name (taken overrides a.name a.default) env1) (given_keeps a.name (taken overrides a.name a.default) env1 (h o))) ]

pub arguments_declared_keep : (position : Position) (env : Environment) → IsKept env (arguments_declared position env)
unfolding arguments_declared
arguments_declared_keep position env =
    arguments_set_keep env.setting.context.overrides (arguments_here position env) env (left env) (left_keeps env)
