use Rattle.gn_values.specs.View.{val_of}
use Rattle.gn_values.specs.Assigning.{element_assigned}
use Rattle.gn_environment.specs.Assigning.{base_has_no_value, element_refuses}
use Rattle.gn_environment.proofs.Outcomes.{on_ok_both, on_err, if_err}
use Rattle.gn_layers.proofs.Changes.{change_absent, changes, stays, element_refused}
use Rattle.gn_layers.proofs.layer.Layer.assign_element.Goals as goal

pub returns-in_default-clause-refused : goal.returns-in_default-clause-refused
returns-in_default-clause-refused c =
    let a = c.self.inside in
    change_absent a.templates.entries a.defaults.entries a.checked a.declares c.args.name.now a.variables.entries _ c.self.view_is base_has_no_value element_refuses (λ old. element_assigned old (val_of c.args.at.now) c.args.op (val_of c.args.value)) c.args.position c.in_default.ensures.value

pub returns-clause-ok : goal.returns-clause-ok
returns-clause-ok c =
    let a = c.self.inside in
    on_ok_both c.assign_element.result _ _ _ (λ e f. changes a.templates.entries a.defaults.entries a.checked a.declares c.args.name.now a.variables.entries _ c.self.view_is _ c.in-Some.variable.now c.assign_element.new.self c.in-Some.ensures.value c.get_mut.ensures.ordered (c.get_mut.follows.holds c.assign_element.new.self).0 base_has_no_value element_refuses (λ old. element_assigned old (val_of c.args.at.now) c.args.op (val_of c.args.value)) c.args.position e f) c.assign_element.ensures.value c.assign_element.ensures.noted

pub returns-clause-refused : goal.returns-clause-refused
returns-clause-refused c =
    let a = c.self.inside in
    if_err c.assign_element.result _ _ (λ e f. element_refused a.templates.entries a.defaults.entries a.checked a.declares c.args.name.now a.variables.entries _ c.self.view_is _ c.in-Some.variable.now c.assign_element.new.self c.in-Some.ensures.value c.get_mut.ensures.ordered (c.get_mut.follows.holds c.assign_element.new.self).0 (λ old. element_assigned old (val_of c.args.at.now) c.args.op (val_of c.args.value)) c.args.position e f) c.assign_element.ensures.refused

pub returns-clause-err : goal.returns-clause-err
returns-clause-err c =
    let a = c.self.inside in
    on_err c.assign_element.result _ _ (λ e. stays a.templates.entries a.defaults.entries a.checked a.declares c.args.name.now a.variables.entries _ c.self.view_is _ c.in-Some.variable.now c.assign_element.new.self c.in-Some.ensures.value c.get_mut.ensures.ordered (c.get_mut.follows.holds c.assign_element.new.self).0 e) c.assign_element.ensures.err
