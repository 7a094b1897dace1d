use Rattle.std.proofs.Common.{◌≡◌, [], sym, ap, ◌∙◌, subst, IfOk}
use Rattle.gn_values.specs.Val.{Val}
use Rattle.gn_values.specs.Tables.{Table, with_names}
use Rattle.gn_environment.specs.Layers.{values_in}
use Rattle.gn_layers.specs.Named.{texted}
use Rattle.gn_layers.proofs.Gathered.{values_seen}
use Rattle.gn_layers.proofs.layer.Layer.copies_by_name.Goals as goal

pub returns : goal.returns
returns c =
    let seen = sym (values_seen c.self.inside.variables.entries) ∙ ap values_in c.self.view_is in
    subst (λ (vs : Table Val). IfOk c.copies_by_name.result (λ bindings. bindings ≡ with_names (texted c.args.names.now vs) [])) seen c.copies_by_name.ensures
