use Rattle.std.proofs.Common.{sym, ap, ◌∙◌}
use Rattle.gn_values.specs.Tables.{with_names}
use Rattle.gn_layers.specs.Kept.{scope_over, scope_texted}
use Rattle.gn_layers.specs.Named.{texted}
use Rattle.gn_layers.specs.View.{value_pairs}
use Rattle.gn_layers.proofs.Gathered.{values_seen}
use Rattle.gn_environment.proofs.Outcomes.{on_ok}
use Rattle.gn_layers.proofs.laid.Laid.lay.Goals as goal

pub returns : goal.returns
returns c =
    let a = c.self.inside in
    let names = c.args.names.now in
    let values = c.in_ok-lay_variables.ensures ∙ ap (λ t. with_names (texted names t) (value_pairs a.variables.entries)) (sym (values_seen c.upper.inside.variables.entries)) in
    on_ok c.lay_table-2.result _ _ (λ d. (λ i. record { variables = values i; templates = c.in_ok-lay_table.ensures.laid i; defaults = d i }) ∙ (λ i. scope_over (scope_texted names (c.upper.view_is i)) (c.self.view_is i))) c.lay_table-2.ensures.laid
