use Rattle.std.proofs.Common.{◌∷◌, Some, None, Ok, Err}
use Rattle.gn_answers.specs.Answers.{meaning_of}
use Rattle.gn_load.proofs.FinishLemmas.{finish_on, finish_none}
use Rattle.gn_load.proofs.TurnLemmas.{settled_turn}
use Rattle.gn_load.proofs.ready.finish_settled.Goals as goal

pub settle-requires : goal.settle-requires
settle-requires g c = c.requires.goes.2.going.claims.0

pub finish-requires-clause-goes : goal.finish-requires-clause-goes
finish-requires-clause-goes g c =
    let known = c.requires.goes.0 in
    let before = c.requires.goes.1 in
    let turned = settled_turn known before (g.S.Source.state c.args.source.now) c.args.driver.now c.args.claim c.requires.goes.2 c.settle.new.driver (meaning_of c.args.answer) c.requires.work c.requires.right
    c.settle.result (Ok (Some c.in-Ok-Some.claim)) c.settle.ensures (rw c.in-Ok-Some.field-0-is at c.in-Ok-Some.ensures) in
    (known, before, turned.0.goes)

pub finish-requires-clause-work : goal.finish-requires-clause-work
finish-requires-clause-work g c =
    (settled_turn c.requires.goes.0 c.requires.goes.1 (g.S.Source.state c.args.source.now) c.args.driver.now c.args.claim c.requires.goes.2 c.settle.new.driver (meaning_of c.args.answer) c.requires.work c.requires.right
    c.settle.result (Ok (Some c.in-Ok-Some.claim)) c.settle.ensures (rw c.in-Ok-Some.field-0-is at c.in-Ok-Some.ensures)).2

pub returns-in-Ok-Some : goal.returns-in-Ok-Some
returns-in-Ok-Some g c = λ known before goes.
    let now = g.S.Source.state c.args.source.now in
    let old = c.args.driver.now in
    let mid = c.settle.new.driver in
    let turned = settled_turn known before now old c.args.claim goes mid (meaning_of c.args.answer) c.requires.work c.requires.right
    c.settle.result (Ok (Some c.in-Ok-Some.claim)) c.settle.ensures (rw c.in-Ok-Some.field-0-is at c.in-Ok-Some.ensures) in
    finish_on known before now (g.S.Source.state c.finish.new.source) old mid c.finish.new.driver (c.in-Ok-Some.claim ∷ mid.waiting.items) c.finish.result turned.0 (c.finish.ensures known before turned.0.goes)

pub returns-in-Ok-None : goal.returns-in-Ok-None
returns-in-Ok-None g c = λ known before goes.
    let now = g.S.Source.state c.args.source.now in
    finish_none known before now c.args.driver.now c.settle.new.driver
    (settled_turn known before now c.args.driver.now c.args.claim goes c.settle.new.driver (meaning_of c.args.answer) c.requires.work c.requires.right c.settle.result (Ok None) c.settle.ensures (rw c.in-Ok-None.field-0-is at c.in-Ok-None.ensures))

pub returns-in-Err : goal.returns-in-Err
returns-in-Err g c = λ known before goes.
    settled_turn known before (g.S.Source.state c.args.source.now) c.args.driver.now c.args.claim goes c.settle.new.driver (meaning_of c.args.answer) c.requires.work c.requires.right
    c.settle.result (Err c.in-Err.stop) c.settle.ensures c.in-Err.ensures
