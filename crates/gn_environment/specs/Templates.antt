-- Templates: what a definition keeps, which one a name means, and the scopes in which a call's block and its body run.
use Rattle.std.specs.Prelude.{ℕ, Bool, ◌&&◌, not, true, nat_eq, if◌then◌else◌, List, [], ◌∷◌, ◌++◌, filter, map, length}
use Rattle.std.specs.Prelude.{Option, Some, None, Result, Ok, Err, is_some, slice_get, codes}
use Rattle.std.specs.List.{list_any}
use Rattle.std.specs.Str.{bytes_eq}
use Rattle.gn_paths.specs.declared.place.Place.{Place}
use Rattle.gn_tree.specs.declared.position.Position.{Position}
use Rattle.gn_tree.specs.Tree.{BlockTree}
use Rattle.gn_values.specs.Val.{Val, vstr}
use Rattle.gn_values.specs.Tables.{Table, at_name, with_name, with_names}
use Rattle.gn_definitions.specs.Imported.{ScopeState, DefinitionState}
use Rattle.gn_definitions.specs.declared.kept.DefinitionName.{DefinitionName}
use Rattle.gn_environment.specs.Layers.{LayerState, ChainState, empty_layer, values_in}
use Rattle.gn_environment.specs.Chains.{nearest, is_declared, chain_left, chain_all_read, all_read}
use Rattle.gn_environment.specs.Unread.{reported}
use Rattle.gn_environment.specs.Environment.{Caller, Environment, behind, kept_by, entries_here, variable_here, entered, given}

-- the layers, the innermost first
abbrev pub layers_of : Environment → List LayerState
layers_of env = env.chain.inner ∷ env.chain.outer

-- the innermost caller's layers, changed
abbrev pub with_caller : (ChainState → ChainState) → List Caller → List Caller
with_caller change [] = []
with_caller change (c ∷ cs) = record c { chain = change c.chain } ∷ cs

-- the same of the scope of its block alone
abbrev pub in_block : (LayerState → LayerState) → ChainState → ChainState
in_block change chain = record chain { inner = change chain.inner }

-- Definitions

abbrev pub numbered : ℕ → Option (List DefinitionState) → Option DefinitionState
numbered number None = None
numbered number (Some made) = slice_get made number

-- the definition that is named: one that this execution made, or another one
abbrev pub definition_of : DefinitionName → Environment → Option DefinitionState
definition_of name env =
    if bytes_eq name.execution env.execution then slice_get env.made name.number else numbered name.number (at_name name.execution env.definitions)

-- whether two places are the same
abbrev pub same_place : Place → Place → Bool
same_place p q = bytes_eq p.file q.file && (nat_eq p.line q.line && nat_eq p.column q.column)

-- where the definitions stand in whose bodies the evaluation is
abbrev pub standing_in : Option DefinitionState → List Place
standing_in None = []
standing_in (Some definition) = definition.place ∷ definition.enclosing

-- a template isn't visible in its own body, nor in what is defined there
abbrev pub is_visible : Environment → DefinitionState → Bool
is_visible env definition = not (list_any (same_place definition.place) (standing_in env.body))

abbrev pub if_visible : Environment → Option DefinitionState → Option DefinitionState
if_visible env None = None
if_visible env (Some definition) = if is_visible env definition then Some definition else None

abbrev pub if_named : Environment → Option DefinitionName → Option DefinitionState
if_named env None = None
if_named env (Some name) = if_visible env (definition_of name env)

-- the first visible template of the name among these
abbrev pub template_among : List ℕ → Environment → List (Table DefinitionName) → Option DefinitionState
template_among name env [] = None
template_among name env (t ∷ ts) = nearest (if_named env (at_name name t)) (template_among name env ts)

-- the templates of the layers outwards, then those of what stands behind them
abbrev pub template_tables : Environment → List (Table DefinitionName)
template_tables env = map (λ (l : LayerState). l.templates) (layers_of env) ++ map (λ (s : ScopeState). s.templates) (behind env)

-- the template that a name means
unfoldable pub template_of : List ℕ → Environment → Option DefinitionState
template_of name env = template_among name env (template_tables env)

-- whether the innermost scope has a template of the name
unfoldable pub has_template_here : List ℕ → Environment → Bool
has_template_here name env = is_some (at_name name env.chain.inner.templates)

-- Tables laid over one another, the first uppermost
abbrev pub laid_over : {A : Type 0} → List (Table A) → Table A → Table A
laid_over [] base = base
laid_over (t ∷ ts) base = with_names t (laid_over ts base)

-- a table but for the names that the layers declare
abbrev pub undeclared : {A : Type 0} → List LayerState → Table A → Table A
undeclared {A} layers table = filter (λ (e : List ℕ × A). not (is_declared e.0 layers)) table

-- what the scopes that a body keeps have
abbrev pub kept_variables : List ScopeState → Table Val
kept_variables [] = []
kept_variables (s ∷ ss) = s.variables

abbrev pub kept_templates : List ScopeState → Table DefinitionName
kept_templates [] = []
kept_templates (s ∷ ss) = s.templates

abbrev pub kept_defaults : List ScopeState → Table (Table Val)
kept_defaults [] = []
kept_defaults (s ∷ ss) = s.defaults

-- all that is in scope, of each name what stands innermost, if that isn't declared: what a definition keeps
unfoldable pub scope_here : Environment → ScopeState
scope_here env = record {
  variables = undeclared (layers_of env) (laid_over (map values_in (layers_of env)) (kept_variables (kept_by env.body)));
  templates = laid_over (map (λ (l : LayerState). l.templates) (layers_of env)) (kept_templates (kept_by env.body));
  defaults = laid_over (map (λ (l : LayerState). l.defaults) (layers_of env)) (kept_defaults (kept_by env.body));
}

abbrev pub new_definition : Position → ℕ → BlockTree → Environment → DefinitionState
new_definition position nesting block env = record {
  place = record { file = env.setting.file; line = position.line; column = position.column };
  nesting = nesting;
  block = block;
  scope = scope_here env;
  enclosing = standing_in env.body;
}

abbrev pub with_template : List ℕ → DefinitionName → LayerState → LayerState
with_template name definition layer = record layer { templates = with_name name definition layer.templates }

-- the environment with a template in its innermost scope. A definition reads every name in scope, and all names of the invoker
unfoldable pub template_defined : List ℕ → Position → ℕ → BlockTree → Environment → Environment
template_defined name position nesting block env = record env {
  chain = in_block (with_template name (record { execution = env.execution; number = length env.made })) (chain_all_read env.chain);
  callers = with_caller (in_block all_read) env.callers;
  made = env.made ++ new_definition position nesting block env ∷ [];
}

-- Defaults

-- the first of the tables that has the kind
abbrev pub defaults_among : List ℕ → List (Table (Table Val)) → Option (Table Val)
defaults_among kind [] = None
defaults_among kind (t ∷ ts) = nearest (at_name kind t) (defaults_among kind ts)

-- the defaults of a kind of call: those of the layers outwards, then those of what stands behind them
unfoldable pub defaults_of : List ℕ → Environment → Option (Table Val)
defaults_of kind env = defaults_among kind (map (λ (l : LayerState). l.defaults) (layers_of env) ++ map (λ (s : ScopeState). s.defaults) (behind env))

abbrev pub with_defaults : List ℕ → Table Val → ChainState → ChainState
with_defaults kind values chain = in_block (λ layer. record layer { defaults = with_name kind values layer.defaults }) chain

-- the innermost scope ends, and its variables are the defaults of a kind of call in the one around it
unfoldable pub defaults_set : List ℕ → Environment → Environment
defaults_set kind env = record env { chain = with_defaults kind (entries_here env) (chain_left env.chain) }

-- names are given their values, unless the innermost scope already has one of them
abbrev pub table_given : Table Val → Environment → Result Environment (List ℕ)
table_given [] env = Ok env
table_given (e ∷ es) env = if is_some (variable_here e.0 env) then Err e.0 else table_given es (given e.0 e.1 env)

abbrev pub table_given_if : Option (Table Val) → Environment → Result Environment (List ℕ)
table_given_if None env = Ok env
table_given_if (Some values) env = table_given values env

-- the defaults of a kind of call are copied into the innermost scope, and count as read; refused at the first name that it already has
unfoldable pub defaults_given : List ℕ → Environment → Result Environment (List ℕ)
defaults_given kind env = table_given_if (defaults_of kind env) env

-- Bodies

-- the environment with another depth of the evaluation
unfoldable pub at_depth : ℕ → Environment → Environment
at_depth depth env = record env { depth = depth }

-- a scope opens that begins with the name given to the call
unfoldable pub block_begins : List ℕ → Environment → Environment
block_begins name env = given (codes "target_name") (vstr name) (entered true env)

-- the layers of a body: one checked scope
abbrev pub in_own_layers : DefinitionState → Environment → Environment
in_own_layers definition env = record env {
  setting = record env.setting { file = definition.place.file };
  chain = record { inner = empty_layer true; outer = [] };
  body = Some definition;
  callers = record { chain = env.chain; body = env.body; file = env.setting.file } ∷ env.callers;
}

-- the body of a template begins behind the block of its call, in what the definition keeps; its scope begins with the name given to the call
unfoldable pub body_begins : DefinitionState → List ℕ → Environment → Environment
body_begins definition name env = given (codes "target_name") (vstr name) (in_own_layers definition env)

-- the body ends, and with it the scope of the call's block
abbrev pub back_in : List Caller → Environment → Environment
back_in [] env = env
back_in (c ∷ cs) env = record env { setting = record env.setting { file = c.file }; chain = chain_left c.chain; body = c.body; callers = cs }

unfoldable pub body_ends : Environment → Environment
body_ends env = back_in env.callers env

-- what the end of the block of the call reports whose template's body runs: its file, the name, and where its last assignment stands
abbrev pub reported_by : List Caller → Option (List ℕ × (List ℕ × Position))
reported_by [] = None
reported_by (c ∷ cs) = in_file c.file (reported c.chain.inner)
  where
    in_file : List ℕ → Option (List ℕ × Position) → Option (List ℕ × (List ℕ × Position))
    in_file file None = None
    in_file file (Some unread) = Some (file, unread)

unfoldable pub reported_by_invoker : Environment → Option (List ℕ × (List ℕ × Position))
reported_by_invoker env = reported_by env.callers
