use Rattle.std.proofs.Common.{refl, ap, ◌∙◌, map}
use Rattle.gn_values.specs.Tables.{Table, at_name}
use Rattle.gn_definitions.specs.declared.kept.DefinitionName.{DefinitionName}
use Rattle.gn_environment.specs.Layers.{LayerState}
use Rattle.gn_environment.specs.Environment.{Environment}
use Rattle.gn_environment.specs.Templates.{if_named, template_among}
use Rattle.gn_env.proofs.Searched.{templates_outwards}
use Rattle.gn_env.proofs.env.Env.find_template.Goals as goal

pub returns-in-Some : goal.returns-in-Some
returns-in-Some c =
    let env = c.args.self.now in
    let name = c.args.name.now in
    let inner = c.templates.ensures ∙ c.innermost.ensures.templates ∙ ap (λ (e : Environment). e.chain.inner.templates) c.self.view_is in
    templates_outwards name env _ _ _ (c.in-Some.ensures ∙ ap (λ (ts : Table DefinitionName). if_named env (at_name name ts)) inner) refl refl

pub returns-in-Some-template_in_layers : goal.returns-in-Some-template_in_layers
returns-in-Some-template_in_layers c =
    let env = c.args.self.now in
    let name = c.args.name.now in
    let inner = c.templates.ensures ∙ c.innermost.ensures.templates ∙ ap (λ (e : Environment). e.chain.inner.templates) c.self.view_is in
    let outer = c.outer.ensures.templates ∙ ap (λ (e : Environment). map (λ (l : LayerState). l.templates) e.chain.outer) c.self.view_is in
    templates_outwards name env _ _ _ (c.in_default.ensures ∙ ap (λ (ts : Table DefinitionName). if_named env (at_name name ts)) inner) (c.in-Some-template_in_layers.ensures ∙ ap (template_among name env) outer) refl

pub returns : goal.returns
returns c =
    let env = c.args.self.now in
    let name = c.args.name.now in
    let inner = c.templates.ensures ∙ c.innermost.ensures.templates ∙ ap (λ (e : Environment). e.chain.inner.templates) c.self.view_is in
    let outer = c.outer.ensures.templates ∙ ap (λ (e : Environment). map (λ (l : LayerState). l.templates) e.chain.outer) c.self.view_is in
    templates_outwards name env _ _ _ (c.in_default.ensures ∙ ap (λ (ts : Table DefinitionName). if_named env (at_name name ts)) inner) (c.in_default-template_in_layers.ensures ∙ ap (template_among name env) outer) c.template_behind.ensures
