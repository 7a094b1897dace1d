use Rattle.std.proofs.Common.{sym, ap, ◌∙◌}
use Rattle.gn_definitions.specs.TakenOut.{without_names}
use Rattle.gn_definitions.proofs.TakenOut.{without_names-push}
use Rattle.gn_definitions.proofs.import_value.MadeBy.take_out.Goals as goal

pub loop-execution-preserved : goal.loop-execution-preserved
loop-execution-preserved c =
    ap (without_names c.pop.new.self.items) c.remove.ensures ∙ sym (without_names-push c.pop.new.self.items c.in-Some.execution c.loop-execution.self) ∙ ap (λ ns. without_names ns c.loop-execution.self) (sym c.in-Some.ensures.items) ∙ c.loop-execution.invariant
