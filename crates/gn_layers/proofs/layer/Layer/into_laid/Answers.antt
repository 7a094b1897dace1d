use Rattle.std.proofs.Common.{[], sym, ap, ◌∙◌}
use Rattle.gn_values.specs.Tables.{with_names}
use Rattle.gn_layers.specs.Kept.{scope_texted}
use Rattle.gn_environment.specs.Layers.{LayerState, values_in}
use Rattle.gn_layers.specs.Named.{texted}
use Rattle.gn_layers.proofs.Gathered.{values_seen}
use Rattle.gn_layers.proofs.layer.Layer.into_laid.Goals as goal

pub returns : goal.returns
returns c =
    let a = c.self.inside in
    let names = c.args.names.now in
    let values = c.in_ok-values_by_name.ensures ∙ ap (λ t. with_names (texted names t) []) (sym (values_seen a.variables.entries)) in
    (λ i. record { variables = values i; templates = a.templates.entries; defaults = a.defaults.entries }) ∙ ap (λ (l : LayerState). record (scope_texted names l) { variables = with_names (texted names (values_in l)) [] }) c.self.view_is
