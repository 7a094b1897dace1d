use Rattle.std.proofs.Common.{◌∷◌}
use Rattle.gn_load.proofs.FinishLemmas.{finish_on, finish_none, right_behind}
use Rattle.gn_load.proofs.ready.finish_ready.Goals as goal

pub first_turn-requires-clause-goes : goal.first_turn-requires-clause-goes
first_turn-requires-clause-goes g c = c.requires.goes

pub finish_behind-requires-clause-goes : goal.finish_behind-requires-clause-goes
finish_behind-requires-clause-goes g c =
    let turned = rw c.in-Ok-Some.field-0-is at (c.in-Ok-Some.ensures c.requires.goes.0 c.requires.goes.1 c.requires.goes.2) in
    (c.requires.goes.0, c.requires.goes.1, turned.0.goes)

pub finish_behind-requires-clause-work : goal.finish_behind-requires-clause-work
finish_behind-requires-clause-work g c = (rw c.in-Ok-Some.field-0-is at (c.in-Ok-Some.ensures c.requires.goes.0 c.requires.goes.1 c.requires.goes.2)).2

pub finish_behind-requires-clause-right : goal.finish_behind-requires-clause-right
finish_behind-requires-clause-right g c =
    let turned = rw c.in-Ok-Some.field-0-is at (c.in-Ok-Some.ensures c.requires.goes.0 c.requires.goes.1 c.requires.goes.2) in
    right_behind c.requires.goes.0 c.requires.goes.1 (g.S.Source.state c.first_turn.new.source) c.args.driver.now c.first_turn.new.driver _ c.args.ready turned.0 c.requires.right

pub returns-in-Ok-Some : goal.returns-in-Ok-Some
returns-in-Ok-Some g c = λ known before goes.
    let turned = rw c.in-Ok-Some.field-0-is at (c.in-Ok-Some.ensures known before goes) in
    let mid = c.first_turn.new.driver in
    finish_on known before (g.S.Source.state c.first_turn.new.source) (g.S.Source.state c.finish_behind.new.source) c.args.driver.now mid c.finish_behind.new.driver (c.in-Ok-Some.claim ∷ mid.waiting.items) c.finish_behind.result turned.0
    (c.finish_behind.ensures known before turned.0.goes)

pub returns-in-Ok-None : goal.returns-in-Ok-None
returns-in-Ok-None g c = λ known before goes.
    finish_none known before (g.S.Source.state c.first_turn.new.source) c.args.driver.now c.first_turn.new.driver (rw c.in-Ok-None.field-0-is at (c.in-Ok-None.ensures known before goes))

pub returns-in-Err : goal.returns-in-Err
returns-in-Err g c = λ known before goes. c.in-Err.ensures known before goes
