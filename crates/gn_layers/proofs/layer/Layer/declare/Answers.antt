use Rattle.std.proofs.Common.{ap, ◌∙◌}
use Rattle.gn_environment.specs.Declaring.{declared_in}
use Rattle.gn_layers.proofs.Tables.{declared_absent, declared_present}
use Rattle.gn_layers.proofs.layer.Layer.declare.Goals as goal

pub returns-in_default : goal.returns-in_default
returns-in_default c =
    let a = c.self.inside in
    declared_absent a.templates.entries a.defaults.entries a.checked a.declares c.args.name.now a.variables.entries c.args.position _ c.if-not-self.false c.in_default.ensures.value (ap (λ m. m.entries) c.get_mut.follows.holds-at-none)
    ∙ ap (declared_in c.args.name.now c.args.position) c.self.view_is

pub returns : goal.returns
returns c =
    let a = c.self.inside in
    let written = c.get_mut.follows.holds c.declare.new.self in
    declared_present a.templates.entries a.defaults.entries a.checked a.declares c.args.name.now a.variables.entries _ c.in-Some.variable.now c.declare.new.self c.in-Some.ensures.value c.get_mut.ensures.ordered written.0 c.args.position c.if-not-self.false c.declare.ensures
    ∙ ap (declared_in c.args.name.now c.args.position) c.self.view_is
