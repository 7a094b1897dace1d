use Rattle.std.proofs.Common.{◌∷◌, refl}
use Rattle.gn_load.specs.declared.driver.Driver.{Driver}
use Rattle.gn_load.specs.declared.driver.Stop.TheVariants.{Memory}
use Rattle.gn_load.proofs.TurnLemmas.{read_for, read_for_stops, read_closes_none, goes_memory}
use Rattle.gn_load.proofs.driver.need_content.Goals as goal

pub take-requires-clause-claim : goal.take-requires-clause-claim
take-requires-clause-claim g c = c.requires.goes.2.going.claims.0

pub read-requires-clause-claim : goal.read-requires-clause-claim
read-requires-clause-claim g c = let takes = rw c.in-Some.is at c.in_ok-other.ensures in takes.2

pub read-requires-clause-read : goal.read-requires-clause-read
read-requires-clause-read g c = let takes = rw c.in-Some.is at c.in_ok-other.ensures in (c.args.path, takes.3)

pub read-requires-clause-few : goal.read-requires-clause-few
read-requires-clause-few g c = c.requires.goes.2.going.few

pub returns-in_err-other : goal.returns-in_err-other
returns-in_err-other g c = λ known before asked goes need.
    read_for_stops known before (g.S.Source.state c.args.source.now) c.args.driver.now _ c.args.claim.now c.from_residual.result Memory c.from_residual.ensures.1
    (goes_memory known before (g.S.Source.state c.args.source.now) c.args.driver.now (c.args.claim.now ∷ c.args.driver.now.waiting.items) goes)

pub unreachable-requires : goal.unreachable-requires
unreachable-requires g c =
    let takes = rw c.in-None.is at c.in_ok-other.ensures in
    read_closes_none c.requires.goes.0 c.requires.goes.1 (g.S.Source.state c.args.source.now) c.args.driver.now c.args.claim.now c.args.path c.requires.goes.2 c.requires.work takes.1

pub returns : goal.returns
returns g c = λ known before asked goes need.
    let taken : Driver = record {
      base = c.args.driver.now.base;
      book = c.take.new.book;
      waiting = c.args.driver.now.waiting;
      known = c.args.driver.now.known;
      reads = c.args.driver.now.reads;
    } in
    let takes = rw c.in-Some.is at c.in_ok-other.ensures in
    read_for known before (g.S.Source.state c.args.source.now) (g.S.Source.state c.read.new.source) c.args.driver.now c.read.new.driver c.args.claim.now c.in-Some.other c.args.path c.args.place asked taken goes need takes
    (record { base = refl; known = refl; reads = refl }) refl c.read.result (c.read.ensures c.args.path takes.3)
