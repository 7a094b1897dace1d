use Rattle.gn_book.specs.Keys.{key_of}
use Rattle.gn_book.specs.Logs.{state_of}
use Rattle.gn_load.specs.Current.{base_now}
use Rattle.gn_load.proofs.DoneLemmas.{has_work, lost_work}
use Rattle.gn_load.proofs.KeptLemmas.{on_ok}
use Rattle.gn_load.proofs.driver.work.Goals as goal

pub perform-requires-clause-work : goal.perform-requires-clause-work
perform-requires-clause-work g c = has_work (key_of c.args.claim.now.key) c.requires.work

pub perform-requires-clause-rest : goal.perform-requires-clause-rest
perform-requires-clause-rest g c = rw c.base.ensures (c.in-Ok.ensures.taken (base_now c.args.driver.now.base) (state_of c.args.driver.now.book).filed c.requires.rests)

pub returns-in-Ok-clause-done : goal.returns-in-Ok-clause-done
returns-in-Ok-clause-done g c = rw c.base.ensures at c.perform.ensures.done

pub returns-in-Ok-clause-kept : goal.returns-in-Ok-clause-kept
returns-in-Ok-clause-kept g c = rw c.base.ensures at c.perform.ensures.kept

pub returns-in-Ok-clause-rests : goal.returns-in-Ok-clause-rests
returns-in-Ok-clause-rests g c = on_ok c.perform.result _ (c.in-Ok.ensures.left (base_now c.args.driver.now.base) (state_of c.args.driver.now.book).filed c.requires.rests)

pub returns-in-Err-clause-reads : goal.returns-in-Err-clause-reads
returns-in-Err-clause-reads g c = lost_work (key_of c.args.claim.now.key) (g.S.Source.state c.args.source.now) c.requires.work
