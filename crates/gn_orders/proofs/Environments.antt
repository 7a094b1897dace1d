-- Each step of an evaluation leaves an environment in order that it finds in order: scopes, reads, assignments, templates, bodies.
use Rattle.std.proofs.Common.{ℕ, zero, suc, Bool, true, false, if◌then◌else◌, List, [], ◌∷◌, map, Option, Some, None, Result, Ok, Err, IfOk, is_some, slice_get, codes}
use Rattle.std.specs.List.{AllByRecursion}
use Rattle.std.specs.Str.{bytes_eq}
use Rattle.gn_tree.specs.declared.position.Position.{Position}
use Rattle.gn_tree.specs.declared.operator.AssignOp.{AssignOp}
use Rattle.gn_tree.specs.Tree.{BlockTree}
use Rattle.gn_values.specs.Val.{Val, vstr}
use Rattle.gn_values.specs.Tables.{Table, at_name}
use Rattle.gn_definitions.specs.Imported.{ScopeState, DefinitionState, MadeBy}
use Rattle.gn_definitions.specs.declared.kept.DefinitionName.{DefinitionName}
use Rattle.gn_environment.specs.declared.context.OpenBlock.{OpenBlock}
use Rattle.gn_environment.specs.Layers.{VariableState, LayerState, ChainState, values_in, empty_layer, given_variable, declaring_layer}
use Rattle.gn_environment.specs.Chains.{chain_read, chain_left, chain_entered, chain_all_read, all_read, nearest}
use Rattle.gn_environment.specs.Assigning.{assigned, element_changed}
use Rattle.gn_environment.specs.Environment.{Setting, Caller, Environment, new_environment, fixed_value, behind, kept_by, after_read, with_chain, after_assignment, after_assignment_over, after_element_assignment, after_element_assignment_over, entered, left, entries_here, variable_here, restored, given, with_open}
use Rattle.gn_environment.specs.Templates.{layers_of, with_caller, in_block, numbered, definition_of, is_visible, if_visible, if_named, template_among, template_tables, template_of, kept_variables, kept_templates, kept_defaults, scope_here, new_definition, with_template, template_defined, with_defaults, defaults_set, defaults_of, table_given, table_given_if, defaults_given, at_depth, block_begins, in_own_layers, body_begins, back_in, body_ends}
use Rattle.gn_environment.specs.Declaring.{declaring_entered}
use Rattle.gn_environment.specs.Shown.{IsInOrder}
use Rattle.gn_orders.specs.InOrder.{IsTableOf, IsLayerInOrder, IsChainInOrder, IsScopeInOrder, IsKeptInOrder, IsBodyInOrder, AreMadeInOrder, AreKnownInOrder, IsCallerInOrder, IsOrdered}
use Rattle.gn_orders.proofs.Tables.{all_appended, set_in_order, left_in_order, laid_in_order, empty_in_order, empty_table, table_set, table_laid, IsSo, found_so}
use Rattle.gn_orders.proofs.Layers.{empty_layer_so, set_so, chain_read_so, all_read_so, layers_read_so, block_so, opened_so, chain_left_so, IsChainSo, assigned_so, element_so, values_so}

-- the second environment is in order where the first is
abbrev pub Keeps : Environment → Environment → Type 0
Keeps env after = IsOrdered env → IsOrdered after

-- what a step leaves is in order where this environment is, if it isn't refused
abbrev pub IsKept : Environment → {R : Type 0} → Result Environment R → Type 0
IsKept env r = IfOk r (λ after. Keeps env after)

pub with_layers : (chain : ChainState) (env : Environment) → (IsChainInOrder env.chain → IsChainInOrder chain) → Keeps env (record env { chain = chain })
with_layers chain env k o = record { chain = k o.chain; body = o.body; callers = o.callers; beneath = o.beneath; made = o.made; definitions = o.definitions }

pub with_callers : (callers : List Caller) (env : Environment) → (AllByRecursion IsCallerInOrder env.callers → AllByRecursion IsCallerInOrder callers) → Keeps env (record env { callers = callers })
with_callers callers env k o = record { chain = o.chain; body = o.body; callers = k o.callers; beneath = o.beneath; made = o.made; definitions = o.definitions }

pub new_so : (setting : Setting) (execution : List ℕ) (checked : Bool) (beneath : List ScopeState) (definitions : MadeBy) → AllByRecursion IsScopeInOrder beneath → AreKnownInOrder definitions → IsOrdered (new_environment setting execution checked beneath definitions)
unfolding new_environment
new_so setting execution checked beneath definitions b d = record {
  chain = record { inner = empty_layer_so checked; outer = tt };
  body = tt;
  callers = tt;
  beneath = b;
  made = tt;
  definitions = d;
}

-- Reads and assignments

pub read_keeps : (name : List ℕ) (env : Environment) → Keeps env (after_read name env)
unfolding after_read
read_keeps name env = with_layers (chain_read name env.chain) env (chain_read_so name env.chain)

chain_keeps : {R : Type 0} (env : Environment) (r : Result ChainState R) → (IsChainInOrder env.chain → IsChainSo r) → IsKept env (with_chain env r)
chain_keeps env (Ok chain) k = with_layers chain env k
chain_keeps env (Err e) k = tt

pub assignment_keeps : (name : List ℕ) (op : AssignOp) (value : Val) (position : Position) (env : Environment) → IsKept env (after_assignment name op value position env)
unfolding after_assignment
assignment_keeps name op value position env =
    chain_keeps env (assigned name op value position (fixed_value name (behind env)) env.chain) (assigned_so name op value position (fixed_value name (behind env)) env.chain)

pub assignment_over_keeps : (old : Val) (name : List ℕ) (op : AssignOp) (value : Val) (position : Position) (env : Environment) → IsKept env (after_assignment_over old name op value position env)
unfolding after_assignment_over
assignment_over_keeps old name op value position env =
    chain_keeps env (assigned name op value position (Some old) env.chain) (assigned_so name op value position (Some old) env.chain)

pub element_keeps : (name : List ℕ) (at : Val) (op : AssignOp) (value : Val) (position : Position) (env : Environment) → IsKept env (after_element_assignment name at op value position env)
unfolding after_element_assignment
element_keeps name at op value position env =
    chain_keeps env (element_changed name at op value position (fixed_value name (behind env)) env.chain) (element_so name at op value position (fixed_value name (behind env)) env.chain)

pub element_over_keeps : (old : Val) (name : List ℕ) (at : Val) (op : AssignOp) (value : Val) (position : Position) (env : Environment) → IsKept env (after_element_assignment_over old name at op value position env)
unfolding after_element_assignment_over
element_over_keeps old name at op value position env =
    chain_keeps env (element_changed name at op value position (Some old) env.chain) (element_so name at op value position (Some old) env.chain)

-- Scopes

pub entered_keeps : (checked : Bool) (env : Environment) → Keeps env (entered checked env)
unfolding entered
entered_keeps checked env = with_layers (chain_entered checked env.chain) env (opened_so (empty_layer checked) (empty_layer_so checked) env.chain)

pub declaring_keeps : (env : Environment) → Keeps env (declaring_entered env)
unfolding declaring_entered
declaring_keeps env =
    with_layers _ env (opened_so declaring_layer (record { variables = empty_in_order; templates = empty_in_order; defaults = empty_table }) env.chain)

pub left_keeps : (env : Environment) → Keeps env (left env)
unfolding left
left_keeps env = with_layers (chain_left env.chain) env (chain_left_so env.chain)

pub restored_keeps : (name : List ℕ) (o : Option VariableState) (env : Environment) → Keeps env (restored name o env)
unfolding restored
restored_keeps name o env = with_layers _ env (λ c. record { inner = set_so name o env.chain.inner c.inner; outer = c.outer })

pub given_keeps : (name : List ℕ) (value : Val) (env : Environment) → Keeps env (given name value env)
unfolding given
given_keeps name value env = restored_keeps name (Some (given_variable value)) env

pub open_keeps : (block : OpenBlock) (env : Environment) → Keeps env (with_open block env)
open_keeps block env o = record { chain = o.chain; body = o.body; callers = o.callers; beneath = o.beneath; made = o.made; definitions = o.definitions }

pub block_begins_keeps : (name : List ℕ) (env : Environment) → Keeps env (block_begins name env)
unfolding block_begins
block_begins_keeps name env o = given_keeps _ _ (entered true env) (entered_keeps true env o)

-- Defaults

table_keeps : (values : Table Val) (env env1 : Environment) → Keeps env env1 → IsKept env (table_given values env1)
table_keeps [] env env1 h = h
table_keeps (e ∷ es) env env1 h =
    elim (is_some (variable_here e.0 env1)) as (λ b. IsKept env (if b then Err e.0 else table_given es (given e.0 e.1 env1))) [ true ↦ tt | false ↦ table_keeps es env (given e.0 e.1 env1) (λ o. given_keeps e.0 e.1 env1 (h o)) ]

table_if_keeps : (values : Option (Table Val)) (env : Environment) → IsKept env (table_given_if values env)
table_if_keeps None env = λ o. o
table_if_keeps (Some values) env = table_keeps values env env (λ o. o)

pub defaults_given_keep : (kind : List ℕ) (env : Environment) → IsKept env (defaults_given kind env)
unfolding defaults_given
defaults_given_keep kind env = table_if_keeps (defaults_of kind env) env

defaults_so : (kind : List ℕ) (values : Table Val) → IsInOrder values → (chain : ChainState) → IsChainInOrder chain → IsChainInOrder (with_defaults kind values chain)
defaults_so kind values s chain c = record {
  inner = record { variables = c.inner.variables; templates = c.inner.templates; defaults = table_set kind values chain.inner.defaults s c.inner.defaults };
  outer = c.outer;
}

pub defaults_set_keep : (kind : List ℕ) (env : Environment) → Keeps env (defaults_set kind env)
unfolding defaults_set entries_here
defaults_set_keep kind env =
    with_layers _ env (λ c. defaults_so kind (values_in env.chain.inner) (values_so env.chain.inner c.inner) (chain_left env.chain) (chain_left_so env.chain c))

-- What names mean that call templates

got_so : (made : List DefinitionState) (n : ℕ) → AreMadeInOrder made → IsBodyInOrder (slice_get made n)
got_so [] n all = tt
got_so (d ∷ ds) zero all = all.0
got_so (d ∷ ds) (suc n) all = got_so ds n all.1

numbered_so : (n : ℕ) (o : Option (List DefinitionState)) → IsSo AreMadeInOrder o → IsBodyInOrder (numbered n o)
numbered_so n None all = tt
numbered_so n (Some made) all = got_so made n all

definition_so : (name : DefinitionName) (env : Environment) → IsOrdered env → IsBodyInOrder (definition_of name env)
definition_so name env o =
    elim (bytes_eq name.execution env.execution) as (λ b. IsBodyInOrder (if b then slice_get env.made name.number else numbered name.number (at_name name.execution env.definitions))) [ true ↦ got_so env.made name.number o.made | false ↦ numbered_so name.number (at_name name.execution env.definitions) (found_so AreMadeInOrder name.execution env.definitions o.definitions.entries) ]

visible_so : (env : Environment) (d : Option DefinitionState) → IsBodyInOrder d → IsBodyInOrder (if_visible env d)
visible_so env None s = tt
visible_so env (Some d) s = elim (is_visible env d) as (λ b. IsBodyInOrder (if b then Some d else None)) [ true ↦ s | false ↦ tt ]

named_so : (env : Environment) (n : Option DefinitionName) → IsOrdered env → IsBodyInOrder (if_named env n)
named_so env None o = tt
named_so env (Some name) o = visible_so env (definition_of name env) (definition_so name env o)

nearest_so : (d further : Option DefinitionState) → IsBodyInOrder d → IsBodyInOrder further → IsBodyInOrder (nearest d further)
nearest_so None further a b = b
nearest_so (Some d) further a b = a

among_so : (name : List ℕ) (env : Environment) → IsOrdered env → (tables : List (Table DefinitionName)) → IsBodyInOrder (template_among name env tables)
among_so name env o [] = tt
among_so name env o (t ∷ ts) = nearest_so (if_named env (at_name name t)) (template_among name env ts) (named_so env (at_name name t) o) (among_so name env o ts)

pub template_so : (name : List ℕ) (env : Environment) → IsOrdered env → IsBodyInOrder (template_of name env)
unfolding template_of
template_so name env o = among_so name env o (template_tables env)

-- What a definition keeps

defaults_in_order : (ls : List LayerState) → AllByRecursion IsLayerInOrder ls → AllByRecursion (IsTableOf IsInOrder) (map (λ (l : LayerState). l.defaults) ls)
defaults_in_order [] all = tt
defaults_in_order (l ∷ ls) all = (all.0.defaults, defaults_in_order ls all.1)

kept_variables_so : (body : Option DefinitionState) → IsBodyInOrder body → IsInOrder (kept_variables (kept_by body))
kept_variables_so None b = empty_in_order
kept_variables_so (Some d) b = b.variables

kept_templates_so : (body : Option DefinitionState) → IsBodyInOrder body → IsInOrder (kept_templates (kept_by body))
kept_templates_so None b = empty_in_order
kept_templates_so (Some d) b = b.templates

kept_defaults_so : (body : Option DefinitionState) → IsBodyInOrder body → IsTableOf IsInOrder (kept_defaults (kept_by body))
kept_defaults_so None b = empty_table
kept_defaults_so (Some d) b = b.defaults

pub scope_here_so : (env : Environment) → IsOrdered env → IsScopeInOrder (scope_here env)
unfolding scope_here
scope_here_so env o = record {
  variables = left_in_order _ _ (laid_in_order (map values_in (layers_of env)) (kept_variables (kept_by env.body)) (kept_variables_so env.body o.body));
  templates = laid_in_order (map (λ (l : LayerState). l.templates) (layers_of env)) (kept_templates (kept_by env.body)) (kept_templates_so env.body o.body);
  defaults = table_laid (map (λ (l : LayerState). l.defaults) (layers_of env)) (kept_defaults (kept_by env.body)) (defaults_in_order (layers_of env) (o.chain.inner, o.chain.outer)) (kept_defaults_so env.body o.body);
}

-- Callers

pub callers_so : (change : ChainState → ChainState) → ((chain : ChainState) → IsChainInOrder chain → IsChainInOrder (change chain)) → (cs : List Caller) → AllByRecursion IsCallerInOrder cs → AllByRecursion IsCallerInOrder (with_caller change cs)
callers_so change k [] all = tt
callers_so change k (c ∷ cs) all = (record { chain = k c.chain all.0.chain; body = all.0.body }, all.1)

defined_so : (name : List ℕ) (definition : DefinitionName) (chain : ChainState) → IsChainInOrder chain → IsChainInOrder (in_block (with_template name definition) (chain_all_read chain))
defined_so name definition chain c = record {
  inner = record {
    variables = (all_read_so chain.inner c.inner).variables;
    templates = set_in_order name definition chain.inner.templates c.inner.templates;
    defaults = c.inner.defaults;
  };
  outer = layers_read_so chain.outer c.outer;
}

pub template_defined_keeps : (name : List ℕ) (position : Position) (nesting : ℕ) (block : BlockTree) (env : Environment) → Keeps env (template_defined name position nesting block env)
unfolding template_defined
template_defined_keeps name position nesting block env o = record {
  chain = defined_so name _ env.chain o.chain;
  body = o.body;
  callers = callers_so (in_block all_read) (block_so all_read all_read_so) env.callers o.callers;
  beneath = o.beneath;
  made = all_appended IsKeptInOrder env.made (new_definition position nesting block env ∷ []) o.made (scope_here_so env o, tt);
  definitions = o.definitions;
}

-- Bodies

pub at_depth_keeps : (depth : ℕ) (env : Environment) → Keeps env (at_depth depth env)
unfolding at_depth
at_depth_keeps depth env o = record { chain = o.chain; body = o.body; callers = o.callers; beneath = o.beneath; made = o.made; definitions = o.definitions }

own_layers_so : (definition : DefinitionState) (env : Environment) → IsKeptInOrder definition → Keeps env (in_own_layers definition env)
own_layers_so definition env d o = record {
  chain = record { inner = empty_layer_so true; outer = tt };
  body = d;
  callers = (record { chain = o.chain; body = o.body }, o.callers);
  beneath = o.beneath;
  made = o.made;
  definitions = o.definitions;
}

pub body_begins_keeps : (definition : DefinitionState) (name : List ℕ) (env : Environment) → IsKeptInOrder definition → Keeps env (body_begins definition name env)
unfolding body_begins
body_begins_keeps definition name env d o = given_keeps (codes "target_name") (vstr name) (in_own_layers definition env) (own_layers_so definition env d o)

back_in_keeps : (cs : List Caller) (env : Environment) → AllByRecursion IsCallerInOrder cs → Keeps env (back_in cs env)
back_in_keeps [] env all o = o
back_in_keeps (c ∷ cs) env all o = record {
  chain = chain_left_so c.chain all.0.chain;
  body = all.0.body;
  callers = all.1;
  beneath = o.beneath;
  made = o.made;
  definitions = o.definitions;
}

pub body_ends_keeps : (env : Environment) → Keeps env (body_ends env)
unfolding body_ends
body_ends_keeps env o = back_in_keeps env.callers env o.callers o
