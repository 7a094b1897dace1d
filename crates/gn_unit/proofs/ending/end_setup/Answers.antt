use Rattle.std.proofs.Common.{[], Result, Err, sym, ap, subst}
use Rattle.gn_definitions.specs.Imported.{ImportState}
use Rattle.gn_runs.specs.Runs.{content_of, Run}
use Rattle.gn_meaning.specs.Steps.{Left}
use Rattle.gn_meaning.specs.Meaning.{configuration_ends}
use Rattle.gn_eval.specs.Library.{Need}
use Rattle.gn_unit.specs.Ends.{IsSetupOf, IsEnd}
use Rattle.gn_unit.specs.declared.unit.Unit.{Unit as Evaluated}
use Rattle.gn_unit.specs.declared.unit.EvalStop.{EvalStop}
use Rattle.gn_unit.proofs.Ended.{setup_fails}
use Rattle.gn_unit.proofs.ending.end_setup.Goals as goal

any_need : Need
any_need = record { question = content_of []; place = record { file = []; line = 1; column = 1 } }

pub returns-in-Ok : goal.returns-in-Ok
returns-in-Ok c =
    let is = c.in-Ok.ensures.runs any_need in
    ((is.0, ap (λ (r : Run (Left ImportState)). r.end) is.1), ap (λ (r : Run (Left ImportState)). r.asked) is.1)

pub returns-in-Err : goal.returns-in-Err
returns-in-Err c =
    subst (λ (r : Result Evaluated EvalStop). IsEnd IsSetupOf r (configuration_ends c.args.env c.args.out)) (sym c.ended.ensures)
    (setup_fails any_need c.in-Err.end c.into_asked.result c.args.out (configuration_ends c.args.env c.args.out) (λ e. c.in-Err.ensures.goes_on (ap Err e)) (c.in-Err.ensures.runs any_need) c.into_asked.ensures)
