-- How the end of a build configuration is told from what its block has left.
use Rattle.std.proofs.Common.{◌≡◌, Option, false, sym, ◌∙◌, ap}
use Rattle.gn_definitions.specs.Imported.{ImportState}
use Rattle.gn_items.specs.Effects.{Effects}
use Rattle.gn_items.specs.declared.default_toolchain.DefaultToolchain.{DefaultToolchain}
use Rattle.gn_environment.specs.declared.context.Context.{Context}
use Rattle.gn_environment.specs.Environment.{Environment}
use Rattle.gn_environment.specs.Imports.{configuration_left}
use Rattle.gn_meaning.specs.Steps.{ends}
use Rattle.gn_meaning.specs.Meaning.{lacks_toolchain, configuration_ends}

-- one that has named the default toolchain, or is run under another one, leaves its scope
pub configuration_ended : (env : Environment) (out : Effects) (value : ImportState) (context : Context) (named : Option DefaultToolchain) → context ≡ env.setting.context → named ≡ out.default_toolchain
    → false ≡ lacks_toolchain context.toolchain named → value ≡ configuration_left env → configuration_ends env out ≡ ends value env out
unfolding configuration_ends
configuration_ended env out value context named is same has left =
    let ends_so : lacks_toolchain env.setting.context.toolchain out.default_toolchain ≡ false = sym (has ∙ (λ i. lacks_toolchain (is i).toolchain (same i))) in
    rw ends_so (ap (λ v. ends v env out) (sym left))
