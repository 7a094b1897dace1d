use Rattle.std.proofs.Common.{[], ◌++◌, refl}
use Rattle.gn_load.proofs.StageLemmas.{looked_nowhere, looked_next, looked_on, looks_stop, looks_last, none_ready}
use Rattle.gn_load.proofs.RoundLemmas.{ahead_begun}
use Rattle.gn_load.proofs.stage.stages.Goals as goal

pub find_next-requires : goal.find_next-requires
find_next-requires g c = record { goes = c.requires.goes }

pub returns-in_err-found : goal.returns-in_err-found
returns-in_err-found g c = λ known before goes.
    let was = g.S.Source.state c.args.source.now in
    let now = g.S.Source.state c.find_next.new.source in
    let old = c.args.driver.now in
    looks_stop known before now old old c.find_next.new.driver c.args.units.now c.find_next.new.ahead.total c.args.copies.now c.from_residual.result _ refl c.from_residual.ensures.1
    (c.in_err-found.ensures known before goes, ahead_begun known before was old [] c.args.ahead.now.total c.args.units.now goes c.requires.counted)

pub stages-init : goal.stages-init
stages-init g c =
    let was = g.S.Source.state c.args.source.now in
    let now = g.S.Source.state c.find_next.new.source in
    let old = c.args.driver.now in
    let has = c.in_ok-found.ensures c.requires.goes.0 c.requires.goes.1 c.requires.goes.2 in
    record {
      on = λ known before goes.
          looked_next known before was old old c.args.units.now c.args.ahead.now.total (looked_nowhere known before was old c.args.units.now c.args.ahead.now.total goes c.requires.waiting c.requires.counted) now c.find_next.new.driver c.find_next.new.ahead.total c.in_ok-found.found (c.in_ok-found.ensures known before goes);
      copied = λ k v h. has.more k v (c.requires.copied k v h);
      underway = none_ready c.requires.goes.0 c.requires.goes.1 now old c.find_next.new.driver c.find_next.new.ahead.total _ has c.new.ensures.items;
    }

pub stage-requires-clause-goes : goal.stage-requires-clause-goes
stage-requires-clause-goes g c = λ l lives. (c.requires.goes.0, c.requires.goes.1, (c.stages.invariant.on c.requires.goes.0 c.requires.goes.1 c.requires.goes.2).goes)

pub stage-requires-clause-waiting : goal.stage-requires-clause-waiting
stage-requires-clause-waiting g c = λ l lives. (c.stages.invariant.on c.requires.goes.0 c.requires.goes.1 c.requires.goes.2).waiting

pub stage-requires-clause-counted : goal.stage-requires-clause-counted
stage-requires-clause-counted g c = λ l lives. (c.stages.invariant.on c.requires.goes.0 c.requires.goes.1 c.requires.goes.2).counted

pub stage-requires-clause-copied : goal.stage-requires-clause-copied
stage-requires-clause-copied g c = λ l lives. c.stages.invariant.copied

pub stage-requires-clause-underway : goal.stage-requires-clause-underway
stage-requires-clause-underway g c = λ l lives. c.stages.invariant.underway

pub returns-in_err-underway : goal.returns-in_err-underway
returns-in_err-underway g c = λ known before goes.
    let on = c.stages.invariant.on known before goes in
    looks_stop known before (g.S.Source.state c.stage.new.source) c.args.driver.now c.stages.driver c.stage.new.driver c.stage.new.units c.stage.new.ahead.total c.stage.new.copies c.from_residual-in_err-underway.result _ on.start c.from_residual-in_err-underway.ensures.1 (c.in_err-underway.ensures known before on.goes)

pub stages-preserved : goal.stages-preserved
stages-preserved g c =
    let first = c.in_ok-underway.ensures c.requires.goes.0 c.requires.goes.1 (c.stages.invariant.on c.requires.goes.0 c.requires.goes.1 c.requires.goes.2).goes in
    record {
      on = λ known before goes.
          let on = c.stages.invariant.on known before goes in
          looked_on known before (g.S.Source.state c.stages.source) (g.S.Source.state c.stage.new.source) c.args.driver.now c.stages.driver c.stage.new.driver c.stages.units c.stage.new.units c.stages.ahead.total c.stage.new.ahead.total on (c.in_ok-underway.ensures known before on.goes).looked;
      copied = first.copied;
      underway = first.underway;
    }

pub load_last-requires-clause-goes : goal.load_last-requires-clause-goes
load_last-requires-clause-goes g c =
    let goes = (c.stages.invariant.on c.requires.goes.0 c.requires.goes.1 c.requires.goes.2).goes in
    (c.requires.goes.0 ++ goes.all, goes.mid, goes.goes)

pub load_last-requires-clause-waiting : goal.load_last-requires-clause-waiting
load_last-requires-clause-waiting g c = (c.stages.invariant.on c.requires.goes.0 c.requires.goes.1 c.requires.goes.2).waiting

pub load_last-requires-clause-counted : goal.load_last-requires-clause-counted
load_last-requires-clause-counted g c = (c.stages.invariant.on c.requires.goes.0 c.requires.goes.1 c.requires.goes.2).counted

pub load_last-requires-clause-underway : goal.load_last-requires-clause-underway
load_last-requires-clause-underway g c = c.stages.invariant.underway

pub returns : goal.returns
returns g c = λ known before goes.
    let on = c.stages.invariant.on known before goes in
    looks_last known before (g.S.Source.state c.stages.source) c.args.driver.now c.stages.driver c.stages.units c.stages.ahead.total on (g.S.Source.state c.load_last.new.source) c.load_last.new.driver c.load_last.new.units c.stages.copies c.stages.invariant.copied c.load_last.result
    (c.load_last.ensures (known ++ on.goes.all) on.goes.mid on.goes.goes)
