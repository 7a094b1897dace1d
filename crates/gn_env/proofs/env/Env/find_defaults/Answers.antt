use Rattle.std.proofs.Common.{refl, ap, ◌∙◌, map}
use Rattle.gn_values.specs.Val.{Val}
use Rattle.gn_values.specs.Tables.{Table, at_name}
use Rattle.gn_environment.specs.Layers.{LayerState}
use Rattle.gn_environment.specs.Environment.{Environment}
use Rattle.gn_environment.specs.Templates.{defaults_among}
use Rattle.gn_env.proofs.Searched.{defaults_outwards}
use Rattle.gn_env.proofs.env.Env.find_defaults.Goals as goal

pub returns-in-Some : goal.returns-in-Some
returns-in-Some c =
    let kind = c.args.kind.now in
    let inner = c.defaults.ensures ∙ c.innermost.ensures.defaults ∙ ap (λ (e : Environment). e.chain.inner.defaults) c.self.view_is in
    defaults_outwards kind c.args.self.now _ _ _ (c.in-Some.ensures.value ∙ ap (λ (ts : Table (Table Val)). at_name kind ts) inner) refl refl

pub returns-in-Some-defaults_in_layers : goal.returns-in-Some-defaults_in_layers
returns-in-Some-defaults_in_layers c =
    let kind = c.args.kind.now in
    let inner = c.defaults.ensures ∙ c.innermost.ensures.defaults ∙ ap (λ (e : Environment). e.chain.inner.defaults) c.self.view_is in
    let outer = c.outer.ensures.defaults ∙ ap (λ (e : Environment). map (λ (l : LayerState). l.defaults) e.chain.outer) c.self.view_is in
    defaults_outwards kind c.args.self.now _ _ _ (c.in_default.ensures.value ∙ ap (λ (ts : Table (Table Val)). at_name kind ts) inner) (c.in-Some-defaults_in_layers.ensures ∙ ap (defaults_among kind) outer) refl

pub returns : goal.returns
returns c =
    let kind = c.args.kind.now in
    let inner = c.defaults.ensures ∙ c.innermost.ensures.defaults ∙ ap (λ (e : Environment). e.chain.inner.defaults) c.self.view_is in
    let outer = c.outer.ensures.defaults ∙ ap (λ (e : Environment). map (λ (l : LayerState). l.defaults) e.chain.outer) c.self.view_is in
    defaults_outwards kind c.args.self.now _ _ _ (c.in_default.ensures.value ∙ ap (λ (ts : Table (Table Val)). at_name kind ts) inner) (c.in_default-defaults_in_layers.ensures ∙ ap (defaults_among kind) outer) c.defaults_behind.ensures
