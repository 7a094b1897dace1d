use Rattle.std.proofs.Common.{refl}
use Rattle.gn_load.proofs.StageLemmas.{looked_on, looks_stop}
use Rattle.gn_load.proofs.stage.look_ahead.Goals as goal

pub stages-requires-clause-goes : goal.stages-requires-clause-goes
stages-requires-clause-goes g c = λ l lives. c.requires.goes

pub stages-requires-clause-waiting : goal.stages-requires-clause-waiting
stages-requires-clause-waiting g c = λ l lives. c.requires.waiting

pub stages-requires-clause-counted : goal.stages-requires-clause-counted
stages-requires-clause-counted g c = λ l lives. c.requires.counted

pub stages-requires-clause-copied : goal.stages-requires-clause-copied
stages-requires-clause-copied g c = λ l lives. c.requires.copied

pub returns-in_err-stages : goal.returns-in_err-stages
returns-in_err-stages g c = λ known before goes.
    let old = c.args.driver.now in
    looks_stop known before (g.S.Source.state c.stages.new.source) old old c.stages.new.driver c.stages.new.units c.stages.new.ahead.total c.stages.new.copies c.from_residual.result _ refl c.from_residual.ensures.1 (c.in_err-stages.ensures known before goes)

pub more-init : goal.more-init
more-init g c = record {
  on = λ known before goes. (c.in_ok-stages.ensures known before goes).0;
  copied = (c.in_ok-stages.ensures c.requires.goes.0 c.requires.goes.1 c.requires.goes.2).1;
}

pub stages-requires-in-more-clause-goes : goal.stages-requires-in-more-clause-goes
stages-requires-in-more-clause-goes g c = λ l lives. (c.requires.goes.0, c.requires.goes.1, (c.more.invariant.on c.requires.goes.0 c.requires.goes.1 c.requires.goes.2).goes)

pub stages-requires-in-more-clause-waiting : goal.stages-requires-in-more-clause-waiting
stages-requires-in-more-clause-waiting g c = λ l lives. (c.more.invariant.on c.requires.goes.0 c.requires.goes.1 c.requires.goes.2).waiting

pub stages-requires-in-more-clause-counted : goal.stages-requires-in-more-clause-counted
stages-requires-in-more-clause-counted g c = λ l lives. (c.more.invariant.on c.requires.goes.0 c.requires.goes.1 c.requires.goes.2).counted

pub stages-requires-in-more-clause-copied : goal.stages-requires-in-more-clause-copied
stages-requires-in-more-clause-copied g c = λ l lives. c.more.invariant.copied

pub returns-in_err-stages-2 : goal.returns-in_err-stages-2
returns-in_err-stages-2 g c = λ known before goes.
    let on = c.more.invariant.on known before goes in
    looks_stop known before (g.S.Source.state c.stages-in-more.new.source) c.args.driver.now c.more.driver c.stages-in-more.new.driver c.stages-in-more.new.units c.stages-in-more.new.ahead.total c.stages-in-more.new.copies c.from_residual-in_err-stages-2.result _ on.start c.from_residual-in_err-stages-2.ensures.1
    (c.in_err-stages-2.ensures known before on.goes)

pub more-preserved : goal.more-preserved
more-preserved g c = record {
  on = λ known before goes.
      let on = c.more.invariant.on known before goes in
      looked_on known before (g.S.Source.state c.more.source) (g.S.Source.state c.stages-in-more.new.source) c.args.driver.now c.more.driver c.stages-in-more.new.driver c.more.units c.stages-in-more.new.units c.more.ahead.total c.stages-in-more.new.ahead.total on (c.in_ok-stages-2.ensures known before on.goes).0;
  copied = (c.in_ok-stages-2.ensures c.requires.goes.0 c.requires.goes.1 (c.more.invariant.on c.requires.goes.0 c.requires.goes.1 c.requires.goes.2).goes).1;
}

pub returns : goal.returns
returns g c = λ known before goes. (c.more.invariant.on known before goes, c.more.invariant.copied)
