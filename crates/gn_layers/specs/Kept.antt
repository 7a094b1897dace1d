-- What a definition keeps, as layers laid over one another.
use Rattle.std.specs.Prelude.{ℕ, List, [], ◌∷◌, Option, Some, None}
use Rattle.std.specs.Ordering.{nat_cmp}
use Rattle.std.specs.Cmp.Lexicographic.{slice_cmp}
use Rattle.std.specs.Map.{set_value}
use Rattle.std.specs.BTreeMap.{is_at}
use Rattle.gn_values.specs.Tables.{with_names, without_name}
use Rattle.gn_environment.specs.Imports.{public_part}
use Rattle.gn_layers.specs.Named.{texted}
use Rattle.gn_definitions.specs.declared.kept.DefinitionName.{DefinitionName}
use Rattle.gn_definitions.specs.Imported.{ScopeState}
use Rattle.gn_environment.specs.Layers.{LayerState, values_in}
use Rattle.gn_environment.specs.Templates.{kept_variables, kept_templates, kept_defaults}

-- the layer in which a name has the template that it had before, or none
abbrev pub template_restored : List ℕ → Option DefinitionName → LayerState → LayerState
template_restored name None layer = record layer { templates = without_name name layer.templates }
template_restored name (Some before) layer = record layer { templates = set_value (is_at (slice_cmp nat_cmp name)) layer.templates before }

-- what a layer has, as a scope that is kept
abbrev pub scope_of : LayerState → ScopeState
scope_of layer = record { variables = values_in layer; templates = layer.templates; defaults = layer.defaults }

-- what a layer by numbers has, with the names of the numbers
abbrev pub scope_texted : List (List ℕ) → LayerState → ScopeState
scope_texted names layer = record { variables = texted names (values_in layer); templates = layer.templates; defaults = layer.defaults }

-- what has a public name
abbrev pub public_scope : ScopeState → ScopeState
public_scope scope = record { variables = public_part scope.variables; templates = public_part scope.templates; defaults = public_part scope.defaults }

-- a scope with the names of another one laid over it
abbrev pub scope_over : ScopeState → ScopeState → ScopeState
scope_over upper lower = record {
  variables = with_names upper.variables lower.variables;
  templates = with_names upper.templates lower.templates;
  defaults = with_names upper.defaults lower.defaults;
}

-- layers, the innermost first, laid over a scope
abbrev pub layers_over : List LayerState → ScopeState → ScopeState
layers_over [] base = base
layers_over (l ∷ ls) base = scope_over (scope_of l) (layers_over ls base)

-- the same of layers by numbers, with the names of the numbers
abbrev pub layers_texted_over : List (List ℕ) → List LayerState → ScopeState → ScopeState
layers_texted_over names [] base = base
layers_texted_over names (l ∷ ls) base = scope_over (scope_texted names l) (layers_texted_over names ls base)

-- what the body's definition keeps, or nothing
abbrev pub kept_scope : List ScopeState → ScopeState
kept_scope scopes = record { variables = kept_variables scopes; templates = kept_templates scopes; defaults = kept_defaults scopes }
