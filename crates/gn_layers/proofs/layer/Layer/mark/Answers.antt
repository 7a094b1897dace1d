use Rattle.std.proofs.Common.{refl, sym, ◌∙◌, ap, is_some, None}
use Rattle.gn_environment.specs.Layers.{LayerState}
use Rattle.gn_environment.specs.Chains.{variable_in, read_in}
use Rattle.gn_environment.proofs.Outwards.{stays_there}
use Rattle.gn_layers.proofs.Tables.{read_absent, read_present}
use Rattle.gn_layers.proofs.Changes.{absent_in, present_in}
use Rattle.gn_layers.proofs.layer.Layer.mark.Goals as goal

pub returns-in_default-clause-found : goal.returns-in_default-clause-found
returns-in_default-clause-found c =
    let a = c.self.inside in
    ap is_some (sym (absent_in a.templates.entries a.defaults.entries a.checked a.declares c.args.name.now a.variables.entries _ c.self.view_is c.in_default.ensures.value))

pub returns-in_default-clause-read : goal.returns-in_default-clause-read
returns-in_default-clause-read c =
    let a = c.self.inside in
    read_absent a.templates.entries a.defaults.entries a.checked a.declares c.args.name.now a.variables.entries _ c.in_default.ensures.value (ap (λ m. m.entries) c.get_mut.follows.holds-at-none) ∙ ap (read_in c.args.name.now) c.self.view_is

pub returns-clause-found : goal.returns-clause-found
returns-clause-found c =
    let a = c.self.inside in
    ap is_some (sym (present_in a.templates.entries a.defaults.entries a.checked a.declares c.args.name.now a.variables.entries _ c.self.view_is c.in-Some.variable.now c.in-Some.ensures.value))

pub returns-clause-read : goal.returns-clause-read
returns-clause-read c =
    let a = c.self.inside in
    let written = c.get_mut.follows.holds (record { value = c.in-Some.variable.now.value; unread = None; declared = c.in-Some.variable.now.declared }) in
    read_present a.templates.entries a.defaults.entries a.checked a.declares c.args.name.now a.variables.entries _ c.in-Some.variable.now _ c.in-Some.ensures.value c.get_mut.ensures.ordered written.0 refl ∙ ap (read_in c.args.name.now) c.self.view_is

pub returns-in_default-clause-stays : goal.returns-in_default-clause-stays
returns-in_default-clause-stays c =
    returns-in_default-clause-found c ∙ stays_there c.args.name.now c.args.self.now ∙ ap (λ (l : LayerState). is_some (variable_in c.args.name.now l)) (sym (returns-in_default-clause-read c))

pub returns-clause-stays : goal.returns-clause-stays
returns-clause-stays c =
    returns-clause-found c ∙ stays_there c.args.name.now c.args.self.now ∙ ap (λ (l : LayerState). is_some (variable_in c.args.name.now l)) (sym (returns-clause-read c))
