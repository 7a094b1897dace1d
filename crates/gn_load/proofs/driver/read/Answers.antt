use Rattle.gn_load.proofs.ReadLemmas.{same_claim, same_reads, filed_once, lost_once, new_once}
use Rattle.gn_load.proofs.driver.read.Goals as goal

pub file_known-requires : goal.file_known-requires
file_known-requires g c = same_claim c.args.driver.now c.known_at.new.driver c.args.claim _ c.known_at.ensures c.requires.read c.requires.claim

pub returns-in_ok-file_known-in-Some : goal.returns-in_ok-file_known-in-Some
returns-in_ok-file_known-in-Some g c =
    filed_once (g.S.Source.state c.args.source.now) c.args.driver.now c.known_at.new.driver c.args.claim c.in-Some.content (rw c.in-Some.is at c.known_at.ensures) c.file_known.new.driver c.in_ok-file_known-in-Some.ensures

pub returns-in_err-file_known-in-Some : goal.returns-in_err-file_known-in-Some
returns-in_err-file_known-in-Some g c =
    lost_once (g.S.Source.state c.args.source.now) c.args.driver.now c.known_at.new.driver c.args.claim c.in-Some.content (rw c.in-Some.is at c.known_at.ensures) c.file_known.new.driver c.from_residual.result c.from_residual.ensures.1

pub read_new-requires-clause-claim : goal.read_new-requires-clause-claim
read_new-requires-clause-claim g c = same_claim c.args.driver.now c.known_at.new.driver c.args.claim _ c.known_at.ensures c.requires.read c.requires.claim

pub read_new-requires-clause-few : goal.read_new-requires-clause-few
read_new-requires-clause-few g c = same_reads c.args.driver.now c.known_at.new.driver c.args.claim _ c.known_at.ensures c.requires.read c.requires.few

pub returns-in-None : goal.returns-in-None
returns-in-None g c =
    new_once (g.S.Source.state c.args.source.now) (g.S.Source.state c.read_new.new.source) c.args.driver.now c.known_at.new.driver c.read_new.new.driver c.args.claim c.read_new.result (rw c.in-None.is at c.known_at.ensures) c.read_new.ensures
