-- Merging an import: the innermost layer with all that it brings.
use Rattle.std.proofs.Common.{◌≡◌, [], ◌∷◌, None, Ok, refl, sym, ap, ◌∙◌}
use Rattle.gn_values.specs.Val.{Val}
use Rattle.gn_values.specs.Tables.{Table}
use Rattle.gn_definitions.specs.Imported.{ImportState}
use Rattle.gn_environment.specs.Layers.{ChainState}
use Rattle.gn_environment.specs.Environment.{Environment, given, restored}
use Rattle.gn_environment.specs.Templates.{in_block}
use Rattle.gn_environment.specs.Giving.{variables_given}
use Rattle.gn_environment.specs.Imports.{values_given, with_imported_calls, with_imported, with_import, conflict_in, merged_unless, merged_known}

pub values_given-is : (es : Table Val) (env : Environment) → values_given es env ≡ record env { chain = record env.chain { inner = record env.chain.inner { variables = variables_given es env.chain.inner.variables } } }
unfolding given restored
values_given-is [] env = refl
values_given-is (e ∷ es) env = values_given-is es (given e.0 e.1 env)

pub with_import-is : (value : ImportState) (env : Environment) → with_import value env ≡ record env { chain = record env.chain { inner = with_imported value.scope env.chain.inner } }
with_import-is value env =
    ap (λ (e : Environment). record e { chain = in_block (with_imported_calls value.scope) e.chain }) (values_given-is value.scope.variables env)

-- the environment after a merge without a conflict
pub merges : (value : ImportState) (env : Environment) (chain : ChainState) → None ≡ conflict_in value env env.chain.inner → chain ≡ record env.chain { inner = with_imported value.scope env.chain.inner } → merged_known value env ≡ Ok (record env { chain = chain })
merges value env chain free is =
    ap (λ name. merged_unless name (with_import value env)) (sym free) ∙ ap Ok (with_import-is value env ∙ ap (λ (c : ChainState). record env { chain = c }) (sym is))
