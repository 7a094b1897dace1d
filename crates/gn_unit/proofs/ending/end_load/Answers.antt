use Rattle.std.proofs.Common.{ap}
use Rattle.gn_runs.specs.Runs.{Run}
use Rattle.gn_meaning.specs.Steps.{Left}
use Rattle.gn_unit.proofs.ending.end_load.Goals as goal

pub returns-in-Ok : goal.returns-in-Ok
returns-in-Ok c =
    let is = c.in-Ok.ensures.runs c.args.out in
    ((c.args.env, ap (λ (r : Run (Left (Unit {0}))). r.end) is), ap (λ (r : Run (Left (Unit {0}))). r.asked) is)
