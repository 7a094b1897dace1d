use Rattle.std.proofs.Common.{◌≡◌, [], ap, ◌∙◌, subst, IfOk}
use Rattle.gn_values.specs.Val.{Val}
use Rattle.gn_values.specs.Tables.{Table, with_names}
use Rattle.gn_environment.specs.Layers.{LayerState, ChainState, values_in}
use Rattle.gn_layers.specs.Named.{texted}
use Rattle.gn_scopes.proofs.NamedLaid.{values_texted}
use Rattle.gn_scopes.proofs.named_scopes.NamedScopes.copies_here.Goals as goal

pub returns : goal.returns
returns c =
    let a = c.self.inside in
    let all = ap (λ (l : LayerState). with_names (texted a.names (values_in l)) []) c.innermost.ensures ∙ values_texted a.names c.self.invariant.different a.scopes.inner c.self.invariant.inner ∙ ap (λ (s : ChainState). values_in s.inner) c.self.view_is in
    subst (λ (vs : Table Val). IfOk c.copies_by_name.result (λ bindings. bindings ≡ vs)) all c.copies_by_name.ensures
