use Rattle.std.proofs.Common.{ap, ◌∙◌}
use Rattle.gn_values.specs.Tables.{without_name}
use Rattle.gn_basics.proofs.Tables.{seen, remove_entry-seen}
use Rattle.gn_definitions.proofs.import_value.MadeBy.remove.Goals as goal

pub returns : goal.returns
returns c =
    ap (seen (λ d. d.value)) c.remove-gone.ensures.entries ∙ remove_entry-seen (λ d. d.value) _ c.self.inside.executions.entries ∙ ap (without_name c.args.execution.now) c.self.view_is
