-- What is in scope, as layers laid over what a body keeps.
use Rattle.std.proofs.Common.{◌≡◌, List, [], ◌∷◌, map, refl, ap}
use Rattle.gn_definitions.specs.Imported.{ScopeState}
use Rattle.gn_environment.specs.Layers.{LayerState, values_in}
use Rattle.gn_environment.specs.Environment.{Environment, kept_by}
use Rattle.gn_environment.specs.Templates.{laid_over, undeclared, layers_of, scope_here}
use Rattle.gn_layers.specs.Kept.{scope_of, scope_over, layers_over, kept_scope}

-- layers over a scope, table by table
layers_over-parts : (ls : List LayerState) (base : ScopeState) → layers_over ls base ≡ record { variables = laid_over (map values_in ls) base.variables; templates = laid_over (map (λ (l : LayerState). l.templates) ls) base.templates; defaults = laid_over (map (λ (l : LayerState). l.defaults) ls) base.defaults }
layers_over-parts [] base = refl
layers_over-parts (l ∷ ls) base = ap (scope_over (scope_of l)) (layers_over-parts ls base)

-- a scope but for the names that the layers declare
abbrev pub without_declared : List LayerState → ScopeState → ScopeState
without_declared layers scope = record scope { variables = undeclared layers scope.variables }

pub all_in_scope : (env : Environment) → without_declared (layers_of env) (layers_over (layers_of env) (kept_scope (kept_by env.body))) ≡ scope_here env
unfolding scope_here
all_in_scope env = ap (without_declared (layers_of env)) (layers_over-parts (layers_of env) (kept_scope (kept_by env.body)))
