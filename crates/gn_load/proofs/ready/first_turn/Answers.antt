use Rattle.gn_load.proofs.TurnLemmas.{goes_memory}
use Rattle.gn_load.proofs.ready.first_turn.Goals as goal

pub returns-in-Err : goal.returns-in-Err
returns-in-Err g c = λ known before goes. goes_memory known before (g.S.Source.state c.args.source.now) c.args.driver.now _ goes
