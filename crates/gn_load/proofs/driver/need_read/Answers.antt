use Rattle.gn_load.proofs.TurnLemmas.{goes_memory}
use Rattle.gn_load.proofs.driver.need_read.Goals as goal

pub returns-in-Err-clause-turn : goal.returns-in-Err-clause-turn
returns-in-Err-clause-turn g c = λ known before asked goes need. goes_memory known before (g.S.Source.state c.args.source.now) c.args.driver.now _ goes
