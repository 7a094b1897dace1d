use Rattle.std.proofs.Common.{ap, ◌∙◌}
use Rattle.gn_definitions.specs.Imported.{ScopeState}
use Rattle.gn_environment.specs.Layers.{ChainState}
use Rattle.gn_environment.specs.Imports.{with_imported}
use Rattle.gn_env.proofs.Merging.{merges}
use Rattle.gn_env.proofs.env.Env.merge_known.Goals as goal

pub returns-clause-ok : goal.returns-clause-ok
returns-clause-ok c =
    let a = c.self.inside in
    let chain : ScopeState → ChainState = λ s. record a.scopes { inner = with_imported s a.scopes.inner } in
    let free = rw (← c.self.view_is) at c.in_default.ensures in
    rw (← c.self.view_is) (merges c.args.value.now _ c.merge.new.self free (c.in_ok-merge.ensures.ok ∙ ap chain c.scope.ensures))
