use Rattle.std.proofs.Common.{List, IfOk, subst}
use Rattle.gn_runs.specs.Runs.{Question}
use Rattle.gn_core.specs.Keys.{no_value}
use Rattle.gn_load.specs.Turns.{Settles}
use Rattle.gn_load.proofs.driver.settle_without_value.Goals as goal

pub returns-in-Ok : goal.returns-in-Ok
returns-in-Ok c =
    subst (λ (qs : List Question). IfOk c.settle.result (Settles c.args.driver.now c.settle.new.driver c.args.claim (no_value c.args.path c.args.place qs))) c.in-Ok.ensures c.settle.ensures
