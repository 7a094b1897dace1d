use Rattle.gn_values.specs.View.{val_of}
use Rattle.gn_values.specs.Assigning.{combined}
use Rattle.gn_environment.specs.Assigning.{has_no_value, operator_refuses}
use Rattle.gn_environment.proofs.Outcomes.{on_ok_both, on_err, if_err}
use Rattle.gn_layers.proofs.Changes.{change_absent, changes, stays, combine_refused}
use Rattle.gn_layers.proofs.layer.Layer.combine.Goals as goal

pub returns-in_default-clause-refused : goal.returns-in_default-clause-refused
returns-in_default-clause-refused c =
    let a = c.self.inside in
    change_absent a.templates.entries a.defaults.entries a.checked a.declares c.args.name.now a.variables.entries _ c.self.view_is has_no_value operator_refuses (λ old. combined c.args.op old (val_of c.args.value)) c.args.position c.in_default.ensures.value

pub returns-clause-ok : goal.returns-clause-ok
returns-clause-ok c =
    let a = c.self.inside in
    on_ok_both c.combine.result _ _ _ (λ e f. changes a.templates.entries a.defaults.entries a.checked a.declares c.args.name.now a.variables.entries _ c.self.view_is _ c.in-Some.variable.now c.combine.new.self c.in-Some.ensures.value c.get_mut.ensures.ordered (c.get_mut.follows.holds c.combine.new.self).0 has_no_value operator_refuses (λ old. combined c.args.op old (val_of c.args.value)) c.args.position e f) c.combine.ensures.value c.combine.ensures.noted

pub returns-clause-refused : goal.returns-clause-refused
returns-clause-refused c =
    let a = c.self.inside in
    if_err c.combine.result _ _ (λ e f. combine_refused a.templates.entries a.defaults.entries a.checked a.declares c.args.name.now a.variables.entries _ c.self.view_is _ c.in-Some.variable.now c.combine.new.self c.in-Some.ensures.value c.get_mut.ensures.ordered (c.get_mut.follows.holds c.combine.new.self).0 (λ old. combined c.args.op old (val_of c.args.value)) c.args.position e f) c.combine.ensures.refused

pub returns-clause-err : goal.returns-clause-err
returns-clause-err c =
    let a = c.self.inside in
    on_err c.combine.result _ _ (λ e. stays a.templates.entries a.defaults.entries a.checked a.declares c.args.name.now a.variables.entries _ c.self.view_is _ c.in-Some.variable.now c.combine.new.self c.in-Some.ensures.value c.get_mut.ensures.ordered (c.get_mut.follows.holds c.combine.new.self).0 e) c.combine.ensures.err
