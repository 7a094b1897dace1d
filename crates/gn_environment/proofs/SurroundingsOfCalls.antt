-- What imports, forwarding and reads of the invoker leave around the scope in which they take place.
use Rattle.std.proofs.Common.{◌≡◌, ℕ, true, false, if◌then◌else◌, List, [], ◌∷◌, map, Option, Some, None, Result, Ok, Err, find, refl, sym, ap, subst, ◌∙◌}
use Rattle.gn_tree.specs.declared.position.Position.{Position}
use Rattle.gn_values.specs.Val.{Val}
use Rattle.gn_values.specs.Tables.{Table}
use Rattle.gn_definitions.specs.Imported.{ImportState}
use Rattle.gn_environment.specs.Layers.{VariableState, LayerState}
use Rattle.gn_environment.specs.Chains.{variable_in, read_in, all_read, all_read_but, names_read, is_one_of, chain_read}
use Rattle.gn_environment.specs.declared.context.OpenBlock.{OpenBlock}
use Rattle.gn_environment.specs.Environment.{Caller, Environment, left, given, with_open}
use Rattle.gn_environment.specs.Templates.{with_caller, in_block}
use Rattle.gn_environment.specs.Invoker.{invoker_entries, after_invoker_entry_read, after_invoker_read, after_invoker_read_but, after_invoker_names_read, behind_first, after_outer_invoker_read, after_caller_read}
use Rattle.gn_environment.specs.Forwarding.{Origin, from_entries, from_invoker, origin_value, origin_read, forwarded_names, given_if, names_given, is_set_here, forwarded_unless, names_forwarded, entries_given, target_name, all_forwarded, after_names_read_here, after_all_read_here}
use Rattle.gn_environment.specs.Declaring.{declaring_entered, declared_of, declared_in, name_declared, brought, places_brought, brought_if, import_brought, names_brought, names_of_all, all_brought, ArgumentState, arguments_here, taken, argument_given, arguments_set, arguments_declared}
use Rattle.gn_environment.specs.Imports.{knowing, conflict_in, values_given, with_import, merged_unless, merged}
use Rattle.gn_environment.specs.Surroundings.{outline, caller_outline, surroundings}
use Rattle.gn_environment.proofs.Surroundings.{IsKept, read_in_outline, chain_read_outline, outline_around, with_layers, given_keeps, declaring_left_keeps, callers_keep, with_callers, block_outline}

-- Reads of many names

names_outline : (names except : List (List ℕ)) (l : LayerState) → outline (names_read names except l) ≡ outline l
names_outline [] except l = refl
names_outline (n ∷ ns) except l =
    elim (is_one_of n except) as (λ b. outline (names_read ns except (if b then l else read_in n l)) ≡ outline l) [ true ↦ names_outline ns except l | false ↦ names_outline ns except (read_in n l) ∙ read_in_outline n l ]

in_block_keeps : (change : LayerState → LayerState) → ((l : LayerState) → outline (change l) ≡ outline l) → (env : Environment) → surroundings (record env { chain = in_block change env.chain }) ≡ surroundings env
in_block_keeps change h env =
    with_layers (in_block change env.chain) env (outline_around (in_block change env.chain) env.chain (block_outline change h env.chain))

pub names_read_here_keep : (names except : List (List ℕ)) (env : Environment) → surroundings (after_names_read_here names except env) ≡ surroundings env
unfolding after_names_read_here
names_read_here_keep names except env = in_block_keeps (names_read names except) (names_outline names except) env

pub all_read_here_keeps : (except : List (List ℕ)) (env : Environment) → surroundings (after_all_read_here except env) ≡ surroundings env
unfolding after_all_read_here
all_read_here_keeps except env = in_block_keeps (all_read_but except) (λ l. refl) env

-- Reads where a template was called

pub caller_read_keeps : (name : List ℕ) (env : Environment) → surroundings (after_caller_read name env) ≡ surroundings env
unfolding after_caller_read
caller_read_keeps name env = with_callers (with_caller (chain_read name) env.callers) env (callers_keep (chain_read name) (chain_read_outline name) env.callers)

invoker_keeps : (change : LayerState → LayerState) → ((l : LayerState) → outline (change l) ≡ outline l) → (env : Environment) → surroundings (record env { callers = with_caller (in_block change) env.callers }) ≡ surroundings env
invoker_keeps change h env =
    with_callers (with_caller (in_block change) env.callers) env (callers_keep (in_block change) (block_outline change h) env.callers)

pub invoker_entry_read_keeps : (name : List ℕ) (env : Environment) → surroundings (after_invoker_entry_read name env) ≡ surroundings env
unfolding after_invoker_entry_read
invoker_entry_read_keeps name env = invoker_keeps (read_in name) (read_in_outline name) env

pub invoker_read_keeps : (env : Environment) → surroundings (after_invoker_read env) ≡ surroundings env
unfolding after_invoker_read
invoker_read_keeps env = invoker_keeps all_read (λ l. refl) env

pub invoker_read_but_keeps : (except : List (List ℕ)) (env : Environment) → surroundings (after_invoker_read_but except env) ≡ surroundings env
unfolding after_invoker_read_but
invoker_read_but_keeps except env = invoker_keeps (all_read_but except) (λ l. refl) env

pub invoker_names_read_keep : (names except : List (List ℕ)) (env : Environment) → surroundings (after_invoker_names_read names except env) ≡ surroundings env
unfolding after_invoker_names_read
invoker_names_read_keep names except env = invoker_keeps (names_read names except) (names_outline names except) env

behind_keep : (change : List Caller → List Caller) → ((cs : List Caller) → map caller_outline (change cs) ≡ map caller_outline cs) → (cs : List Caller) → map caller_outline (behind_first change cs) ≡ map caller_outline cs
behind_keep change h [] = refl
behind_keep change h (c ∷ cs) = ap (λ (xs : List Caller). caller_outline c ∷ xs) (h cs)

pub outer_invoker_read_keeps : (env : Environment) → surroundings (after_outer_invoker_read env) ≡ surroundings env
unfolding after_outer_invoker_read
outer_invoker_read_keeps env =
    let change : List Caller → List Caller = with_caller (in_block all_read) in
    with_callers (behind_first change env.callers) env (behind_keep change (callers_keep (in_block all_read) (block_outline all_read (λ l. refl))) env.callers)

-- Forwarding

origin_read_keeps : (origin : Origin) (name : List ℕ) (env : Environment) → surroundings (origin_read origin name env) ≡ surroundings env
origin_read_keeps (from_entries entries) name env = refl
origin_read_keeps (from_invoker outer) name env = caller_read_keeps name env

given_if_keeps : (name : List ℕ) (o : Option Val) (env : Environment) → surroundings (given_if name o env) ≡ surroundings env
given_if_keeps name None env = refl
given_if_keeps name (Some v) env = given_keeps name v env

names_given_keep : (value : List ℕ → Option Val) (origin : Origin) (names : List (List ℕ)) (env : Environment) → surroundings (names_given value origin names env) ≡ surroundings env
names_given_keep value origin [] env = refl
names_given_keep value origin (n ∷ ns) env =
    names_given_keep value origin ns (given_if n (value n) (origin_read origin n env)) ∙ given_if_keeps n (value n) (origin_read origin n env) ∙ origin_read_keeps origin n env

unless_keeps : (o : Option (List ℕ)) (env after : Environment) → surroundings after ≡ surroundings env → IsKept env (forwarded_unless o after)
unless_keeps None env after h = h
unless_keeps (Some name) env after h = tt

pub names_forwarded_keep : (origin : Origin) (names except : List (List ℕ)) (env : Environment) → IsKept env (names_forwarded origin names except env)
unfolding names_forwarded
names_forwarded_keep origin names except env =
    unless_keeps (find (is_set_here env) (forwarded_names origin names except env)) env (names_given (origin_value origin env) origin (forwarded_names origin names except env) env) (names_given_keep (origin_value origin env) origin (forwarded_names origin names except env) env)

entries_given_keep : (except : List (List ℕ)) (entries : Table Val) (env : Environment) → surroundings (entries_given except entries env) ≡ surroundings env
entries_given_keep except [] env = refl
entries_given_keep except (e ∷ es) env =
    elim (is_one_of e.0 except) as (λ b. surroundings (entries_given except es (if b then env else given e.0 e.1 env)) ≡ surroundings env) [ true ↦ entries_given_keep except es env | false ↦ entries_given_keep except es (given e.0 e.1 env) ∙ given_keeps e.0 e.1 env ]

pub all_forwarded_keep : (origin : Origin) (except : List (List ℕ)) (env : Environment) → surroundings (all_forwarded origin except env) ≡ surroundings env
unfolding all_forwarded
all_forwarded_keep (from_entries entries) except env = entries_given_keep (target_name ∷ except) entries env
all_forwarded_keep (from_invoker outer) except env =
    entries_given_keep (target_name ∷ except) (invoker_entries env) (after_invoker_read env) ∙ invoker_read_keeps env

-- Imports

values_given_keep : (values : Table Val) (env : Environment) → surroundings (values_given values env) ≡ surroundings env
values_given_keep [] env = refl
values_given_keep (e ∷ es) env = values_given_keep es (given e.0 e.1 env) ∙ given_keeps e.0 e.1 env

import_keeps : (value : ImportState) (env : Environment) → surroundings (with_import value env) ≡ surroundings env
unfolding surroundings
import_keeps value env = values_given_keep value.scope.variables env

known_keeps : (value : ImportState) (env : Environment) → surroundings (knowing value env) ≡ surroundings env
unfolding surroundings
known_keeps value env = refl

merged_unless_keeps : (o : Option (List ℕ)) (env after : Environment) → surroundings after ≡ surroundings env → IsKept env (merged_unless o after)
merged_unless_keeps None env after h = h
merged_unless_keeps (Some name) env after h = tt

pub merged_keeps : (value : ImportState) (env : Environment) → IsKept env (merged value env)
unfolding merged
merged_keeps value env =
    merged_unless_keeps (conflict_in value (knowing value env) env.chain.inner) env (with_import value (knowing value env)) (import_keeps value (knowing value env) ∙ known_keeps value env)

-- The blocks that say what may be called in them

pub block_ends : (block around : OpenBlock) (env after : Environment) → surroundings after ≡ surroundings (with_open block env) → env.setting.inside ≡ around → surroundings (with_open around after) ≡ surroundings env
unfolding surroundings
block_ends block around env after h e =
    ap (λ (s : Environment). with_open around s) h
    ∙ ap (λ (b : OpenBlock). record (surroundings env) { setting = record env.setting { inside = b } }) (sym e)

pub same_open : (env after : Environment) → surroundings after ≡ surroundings env → after.setting.inside ≡ env.setting.inside
unfolding surroundings
same_open env after h = ap (λ (s : Environment). s.setting.inside) h

-- Declared arguments

declared_of_outline : (name : List ℕ) (position : Position) (layer : LayerState) (o : Option VariableState) → outline (declared_of name position layer o) ≡ outline layer
declared_of_outline name position layer (Some v) = refl
declared_of_outline name position layer None = refl

declared_outline : (name : List ℕ) (position : Position) (layer : LayerState) → outline (declared_in name position layer) ≡ outline layer
declared_outline name position layer =
    elim layer.declares as (λ b. outline (if b then declared_of name position layer (variable_in name layer) else layer) ≡ outline layer) [ true ↦ declared_of_outline name position layer (variable_in name layer) | false ↦ refl ]

pub name_declared_keeps : (name : List ℕ) (position : Position) (env : Environment) → surroundings (name_declared name position env) ≡ surroundings env
unfolding name_declared
name_declared_keeps name position env = in_block_keeps (declared_in name position) (declared_outline name position) env

brought_keep : (places : List (List ℕ × Position)) (env : Environment) → surroundings (brought places env) ≡ surroundings env
brought_keep [] env = refl
brought_keep (p ∷ ps) env = brought_keep ps (name_declared p.0 p.1 env) ∙ name_declared_keeps p.0 p.1 env

brought_if_keeps : (places : List (List ℕ × Position)) (env : Environment) (r : Result Environment (List ℕ)) → IsKept env r → IsKept env (brought_if places r)
brought_if_keeps places env (Ok after) h = brought_keep places after ∙ h
brought_if_keeps places env (Err name) h = tt

pub import_brought_keeps : (position : Position) (value : ImportState) (env : Environment) → IsKept env (import_brought position value env)
unfolding import_brought
import_brought_keeps position value env = brought_if_keeps (places_brought position env (map (λ (v : List ℕ × Val). v.0) value.scope.variables)) env (merged value env) (merged_keeps value env)

pub names_brought_keep : (position : Position) (origin : Origin) (names except : List (List ℕ)) (env : Environment) → IsKept env (names_brought position origin names except env)
unfolding names_brought
names_brought_keep position origin names except env =
    brought_if_keeps (places_brought position env (forwarded_names origin names except env)) env (names_forwarded origin names except env) (names_forwarded_keep origin names except env)

pub all_brought_keep : (position : Position) (origin : Origin) (except : List (List ℕ)) (env : Environment) → surroundings (all_brought position origin except env) ≡ surroundings env
unfolding all_brought
all_brought_keep position origin except env = brought_keep (places_brought position env (names_of_all origin except env)) (all_forwarded origin except env) ∙ all_forwarded_keep origin except env

arguments_set_keep : (overrides : Table Val) (arguments : List ArgumentState) (env env1 : Environment) → surroundings env1 ≡ surroundings env → IsKept env (arguments_set overrides arguments env1)
arguments_set_keep overrides [] env env1 h = h
arguments_set_keep overrides (a ∷ rest) env env1 h =
    elim (is_set_here env1 a.name) as (λ b. IsKept env (if b then Err a.name else arguments_set overrides rest (argument_given overrides a env1))) [ true ↦ tt | false ↦ arguments_set_keep overrides rest env (argument_given overrides a env1) (name_declared_keeps a.name a.position (given a.name (taken overrides a.name a.default) env1) ∙ given_keeps a.name (taken overrides a.name a.default) env1 ∙ h) ]

-- what stood around a block that declares arguments stands there again when it ends
pub arguments_declared_keep : (position : Position) (env env1 : Environment) → surroundings env1 ≡ surroundings (declaring_entered env) → IsKept env (arguments_declared position env1)
unfolding arguments_declared
arguments_declared_keep position env env1 h =
    arguments_set_keep env1.setting.context.overrides (arguments_here position env1) env (left env1) (declaring_left_keeps env env1 h)

pub arguments_declared_leave : (position : Position) (env after last : Environment) → surroundings after ≡ surroundings (declaring_entered env) → arguments_declared position after ≡ Ok last → surroundings last ≡ surroundings env
arguments_declared_leave position env after last h e =
    subst (λ (r : Result Environment (List ℕ)). IsKept env r) e (arguments_declared_keep position env after h)
