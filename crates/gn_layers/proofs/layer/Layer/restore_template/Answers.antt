use Rattle.std.proofs.Common.{Some, ap, sym, ◌∙◌}
use Rattle.gn_layers.specs.View.{variables_in}
use Rattle.gn_layers.specs.Kept.{template_restored}
use Rattle.gn_layers.proofs.Undone.{set_value_nowhere}
use Rattle.gn_layers.proofs.layer.Layer.restore_template.Goals as goal

pub returns-in_default-get_mut : goal.returns-in_default-get_mut
returns-in_default-get_mut c =
    let a = c.self.inside in
    let stays = ap (λ m. m.entries) c.get_mut.follows.holds-at-none ∙ sym (set_value_nowhere _ a.templates.entries c.in-Some.before (sym c.in_default-get_mut.ensures.value)) in
    (λ i. record { variables = variables_in a.variables.entries; templates = stays i; defaults = a.defaults.entries; checked = a.checked; declares = a.declares })
    ∙ ap (template_restored c.args.name.now (Some c.in-Some.before)) c.self.view_is ∙ ap (λ before. template_restored c.args.name.now before c.args.self.now) (sym c.in-Some.is)

pub returns : goal.returns
returns c =
    let a = c.self.inside in
    let written = (c.get_mut.follows.holds c.in-Some.before).0 in
    (λ i. record { variables = variables_in a.variables.entries; templates = written i; defaults = a.defaults.entries; checked = a.checked; declares = a.declares })
    ∙ ap (template_restored c.args.name.now (Some c.in-Some.before)) c.self.view_is ∙ ap (λ before. template_restored c.args.name.now before c.args.self.now) (sym c.in-Some.is)
