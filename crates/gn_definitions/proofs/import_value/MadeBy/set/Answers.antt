use Rattle.std.proofs.Common.{ap, ◌∙◌}
use Rattle.gn_values.specs.Tables.{with_name}
use Rattle.gn_basics.proofs.Orders.{order}
use Rattle.gn_basics.proofs.Tables.{seen, insert_entry-seen}
use Rattle.gn_definitions.proofs.import_value.MadeBy.set.Goals as goal

pub returns-clause-ok : goal.returns-clause-ok
returns-clause-ok c =
    ap (seen (λ d. d.value)) c.in_ok-insert.ensures.entries ∙ insert_entry-seen (λ d. d.value) order c.self.inside.executions.entries c.args.execution c.args.definitions ∙ ap (with_name c.args.execution c.args.definitions.value) c.self.view_is
