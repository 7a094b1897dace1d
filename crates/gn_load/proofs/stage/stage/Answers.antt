use Rattle.std.proofs.Common.{◌∙◌}
use Rattle.gn_load.proofs.StageLemmas.{looked_nowhere, looked_memory}
use Rattle.gn_load.proofs.stage.stage.Goals as goal

pub stage_over-requires-clause-goes : goal.stage_over-requires-clause-goes
stage_over-requires-clause-goes g c = λ l lives. c.requires.goes

pub stage_over-requires-clause-waiting : goal.stage_over-requires-clause-waiting
stage_over-requires-clause-waiting g c = λ l lives. c.requires.waiting

pub stage_over-requires-clause-counted : goal.stage_over-requires-clause-counted
stage_over-requires-clause-counted g c = λ l lives. c.requires.counted

pub stage_over-requires-clause-base : goal.stage_over-requires-clause-base
stage_over-requires-clause-base g c = λ l lives. c.base.ensures ∙ c.in-Ok.ensures.base

pub stage_over-requires-clause-copied : goal.stage_over-requires-clause-copied
stage_over-requires-clause-copied g c = λ l lives. c.share.ensures.copied c.requires.copied

pub stage_over-requires-clause-underway : goal.stage_over-requires-clause-underway
stage_over-requires-clause-underway g c = λ l lives. c.requires.underway

pub returns-in-Ok : goal.returns-in-Ok
returns-in-Ok g c = c.stage_over.ensures

pub returns-in-Err : goal.returns-in-Err
returns-in-Err g c = λ known before goes.
    let now = g.S.Source.state c.args.source.now in
    let old = c.args.driver.now in
    let total = c.args.ahead.now.total in
    looked_memory known before now old old c.args.units.now total (looked_nowhere known before now old c.args.units.now total goes c.requires.waiting c.requires.counted)
