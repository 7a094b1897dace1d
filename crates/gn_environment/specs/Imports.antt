-- What an import leaves, and the finished build configuration, and what merging an import does.
use Rattle.std.specs.Prelude.{ℕ, Bool, true, false, not, nat_eq, if◌then◌else◌, List, [], ◌∷◌, filter, Option, Some, None, Result, Ok, Err}
use Rattle.std.specs.Ordering.{nat_cmp, is_lt}
use Rattle.std.specs.Cmp.Lexicographic.{slice_cmp}
use Rattle.gn_values.specs.Val.{Val, vscope, binds_of}
use Rattle.gn_values.specs.Equal.{equals}
use Rattle.gn_values.specs.Tables.{Table, at_name, with_name, with_names, with_new_names}
use Rattle.gn_definitions.specs.Imported.{ScopeState, DefinitionState, ImportState}
use Rattle.gn_definitions.specs.declared.kept.DefinitionName.{DefinitionName}
use Rattle.gn_environment.specs.Layers.{VariableState, LayerState, values_in}
use Rattle.gn_environment.specs.Chains.{variable_in}
use Rattle.gn_environment.specs.Environment.{Environment, given}
use Rattle.gn_environment.specs.Templates.{definition_of, same_place, in_block}
use Rattle.gn_environment.specs.Invoker.{is_invoker_here}
use Rattle.gn_environment.specs.Giving.{all_given}

-- What is left: the names that don't begin with `_`

abbrev pub is_public : List ℕ → Bool
is_public [] = true
is_public (b ∷ bs) = not (nat_eq b 95)

abbrev pub public_part : {A : Type 0} → Table A → Table A
public_part {A} table = filter (λ (e : List ℕ × A). is_public e.0) table

-- the variables, templates and defaults of a layer with public names
abbrev pub scope_left : LayerState → ScopeState
scope_left layer = record { variables = public_part (values_in layer); templates = public_part layer.templates; defaults = public_part layer.defaults }

-- what the innermost scope leaves, and all definitions that are known, among them those that this execution made
unfoldable pub import_left : Environment → ImportState
import_left env = record { scope = scope_left env.chain.inner; definitions = with_name env.execution env.made env.definitions }

-- all that stands in a layer
abbrev pub whole_scope : LayerState → ScopeState
whole_scope layer = record { variables = values_in layer; templates = layer.templates; defaults = layer.defaults }

-- what the finished build configuration leaves for the files beneath which it stands: all names of its scope, and all definitions that are known
unfoldable pub configuration_left : Environment → ImportState
configuration_left env = record { scope = whole_scope env.chain.inner; definitions = with_name env.execution env.made env.definitions }

-- Conflicts

-- a variable that the scope has with another value
abbrev pub other_value : LayerState → List ℕ × Val → Bool
other_value layer e = differs (variable_in e.0 layer)
  where
    differs : Option VariableState → Bool
    differs None = false
    differs (Some v) = not (equals v.value e.1)

-- whether two definitions stand at one place, which makes two templates equal
abbrev pub same_definition : Option DefinitionState → Option DefinitionState → Bool
same_definition (Some a) (Some b) = same_place a.place b.place
same_definition None None = true
same_definition _ _ = false

-- a template that the scope has with another definition; the names are those of the environment in which the definitions are known
abbrev pub other_template : Environment → LayerState → List ℕ × DefinitionName → Bool
other_template env layer e = differs (at_name e.0 layer.templates)
  where
    differs : Option DefinitionName → Bool
    differs None = false
    differs (Some n) = not (same_definition (definition_of n env) (definition_of e.1 env))

-- defaults that the scope has with other values
abbrev pub other_defaults : LayerState → List ℕ × Table Val → Bool
other_defaults layer e = differs (at_name e.0 layer.defaults)
  where
    differs : Option (Table Val) → Bool
    differs None = false
    differs (Some t) = not (equals (vscope (binds_of t)) (vscope (binds_of e.1)))

-- the first name of a table that differs
abbrev pub first_name : {A : Type 0} → (List ℕ × A → Bool) → Table A → Option (List ℕ)
first_name differs [] = None
first_name differs (e ∷ es) = if differs e then Some e.0 else first_name differs es

-- of two names the lesser one, by their bytes
abbrev pub is_less : List ℕ → List ℕ → Bool
is_less a b = is_lt (slice_cmp nat_cmp a b)

abbrev pub lesser : Option (List ℕ) → Option (List ℕ) → Option (List ℕ)
lesser None b = b
lesser (Some a) None = Some a
lesser (Some a) (Some b) = if is_less b a then Some b else Some a

-- the environment that knows the definitions that an import brings
abbrev pub knowing : ImportState → Environment → Environment
knowing value env = record env { definitions = with_new_names value.definitions env.definitions }

-- the name of the invoker, where it is brought into the scope in which the invoker stands
abbrev pub invoker_brought : Environment → List ℕ × Val → Bool
invoker_brought env e = is_invoker_here e.0 env

-- the first name, in name order, at which the innermost scope has something else than the import; the invoker is something else than any value
abbrev pub conflict_in : ImportState → Environment → LayerState → Option (List ℕ)
conflict_in value env layer =
    lesser (first_name (invoker_brought env) value.scope.variables)
    (lesser (first_name (other_value layer) value.scope.variables)
    (lesser (first_name (other_template env layer) value.scope.templates) (first_name (other_defaults layer) value.scope.defaults)))

-- the innermost scope with all that the import brings; its variables count as read
abbrev pub values_given : Table Val → Environment → Environment
values_given [] env = env
values_given (e ∷ es) env = values_given es (given e.0 e.1 env)

abbrev pub with_imported_calls : ScopeState → LayerState → LayerState
with_imported_calls scope layer = record layer { templates = with_names scope.templates layer.templates; defaults = with_names scope.defaults layer.defaults }

-- the same of one layer
abbrev pub with_imported : ScopeState → LayerState → LayerState
with_imported scope layer = with_imported_calls scope (all_given scope.variables layer)

abbrev pub with_import : ImportState → Environment → Environment
with_import value env = record (values_given value.scope.variables env) {
  chain = in_block (with_imported_calls value.scope) (values_given value.scope.variables env).chain;
}

abbrev pub merged_unless : Option (List ℕ) → Environment → Result Environment (List ℕ)
merged_unless (Some name) env = Err name
merged_unless None env = Ok env

-- the environment after merging what an import left, whose definitions it knows, or the name at which it conflicts
abbrev pub merged_known : ImportState → Environment → Result Environment (List ℕ)
merged_known value env = merged_unless (conflict_in value env env.chain.inner) (with_import value env)

-- the environment after merging what an import left, or the name at which it conflicts
unfoldable pub merged : ImportState → Environment → Result Environment (List ℕ)
merged value env = merged_known value (knowing value env)
