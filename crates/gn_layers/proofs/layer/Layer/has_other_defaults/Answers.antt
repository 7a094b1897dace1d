use Rattle.std.proofs.Common.{◌≡◌, Some, not, sym, ap, ◌∙◌}
use Rattle.gn_values.specs.Val.{vscope, binds_of}
use Rattle.gn_values.specs.Tables.{at_name}
use Rattle.gn_value_model.proofs.Items.{same_scope}
use Rattle.gn_value_model.proofs.Equality.{test_from_answer}
use Rattle.gn_environment.specs.Layers.{LayerState}
use Rattle.gn_layers.proofs.layer.Layer.has_other_defaults.Goals as goal

pub returns-in-Some : goal.returns-in-Some
returns-in-Some c =
    let there : at_name c.args.kind.now c.args.self.now.defaults ≡ Some c.in-Some.own.now = ap (λ (l : LayerState). at_name c.args.kind.now l.defaults) (sym c.self.view_is) ∙ sym c.in-Some.ensures.value in
    rw there (ap not (test_from_answer _ _ c.same_bindings.result (λ h. ap (λ l. vscope (binds_of l)) (c.same_bindings.ensures.0 h), λ e. c.same_bindings.ensures.1 (same_scope _ _ e))))
