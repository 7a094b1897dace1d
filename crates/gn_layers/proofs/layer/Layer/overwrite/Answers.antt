use Rattle.std.proofs.Common.{sym, ◌∙◌, ap}
use Rattle.gn_values.specs.View.{val_of}
use Rattle.gn_environment.specs.Assigning.{put}
use Rattle.gn_layers.specs.View.{variable_state}
use Rattle.gn_environment.proofs.Outcomes.{on_ok_three, on_err, if_err_both}
use Rattle.gn_layers.proofs.Changes.{absent_in, overwrites, overwrite_refused, overwrite_absent, stays}
use Rattle.gn_layers.proofs.Tables.{same_layer}
use Rattle.gn_layers.proofs.layer.Layer.overwrite.Goals as goal

pub put_assigned-requires : goal.put_assigned-requires
put_assigned-requires c =
    let a = c.self.inside in
    absent_in a.templates.entries a.defaults.entries a.checked a.declares c.args.name.now a.variables.entries _ (same_layer a.templates.entries a.defaults.entries a.checked a.declares _ _ (sym (ap (λ m. m.entries) c.get_mut.follows.holds-at-none))) c.in_default.ensures.value

pub returns-in_default-clause-ok : goal.returns-in_default-clause-ok
returns-in_default-clause-ok c =
    let a = c.self.inside in
    overwrite_absent a.templates.entries a.defaults.entries a.checked a.declares c.args.name.now a.variables.entries _ c.self.view_is (val_of c.args.value) c.args.position _ c.in_default.ensures.value (c.in_ok-put_assigned.ensures.ok ∙ ap (put c.args.name.now (val_of c.args.value) c.args.position) (same_layer a.templates.entries a.defaults.entries a.checked a.declares _ _ (ap (λ m. m.entries) c.get_mut.follows.holds-at-none) ∙ c.self.view_is))

pub returns-clause-ok : goal.returns-clause-ok
returns-clause-ok c =
    let a = c.self.inside in
    on_ok_three c.overwrite.result _ _ _ _ (λ b e f. overwrites a.templates.entries a.defaults.entries a.checked a.declares c.args.name.now a.variables.entries _ c.self.view_is _ c.in-Some.variable.now c.overwrite.new.self c.in-Some.ensures.value c.get_mut.ensures.ordered (c.get_mut.follows.holds c.overwrite.new.self).0 (val_of c.args.value) c.args.position b (ap val_of e) f) c.overwrite.ensures.ok c.overwrite.ensures.value c.overwrite.ensures.noted

pub returns-clause-refused : goal.returns-clause-refused
returns-clause-refused c =
    let a = c.self.inside in
    if_err_both c.overwrite.result _ _ _ (λ e is b. rw is (overwrite_refused a.templates.entries a.defaults.entries a.checked a.declares c.args.name.now a.variables.entries _ c.self.view_is _ c.in-Some.variable.now c.overwrite.new.self c.in-Some.ensures.value c.get_mut.ensures.ordered (c.get_mut.follows.holds c.overwrite.new.self).0 (val_of c.args.value) c.args.position b)) c.overwrite.ensures.only c.overwrite.ensures.refused

pub returns-clause-err : goal.returns-clause-err
returns-clause-err c =
    let a = c.self.inside in
    on_err c.overwrite.result _ _ (λ e. stays a.templates.entries a.defaults.entries a.checked a.declares c.args.name.now a.variables.entries _ c.self.view_is _ c.in-Some.variable.now c.overwrite.new.self c.in-Some.ensures.value c.get_mut.ensures.ordered (c.get_mut.follows.holds c.overwrite.new.self).0 (ap variable_state e)) c.overwrite.ensures.err
