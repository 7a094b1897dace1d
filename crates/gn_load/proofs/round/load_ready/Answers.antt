use Rattle.std.proofs.Common.{refl, ◌∙◌, ap}
use Rattle.gn_book.specs.Keys.{key_of}
use Rattle.gn_load.proofs.PlainLemmas.{unit_waits}
use Rattle.gn_load.proofs.RoundLemmas.{given_goes, given_right, loads_one}
use Rattle.gn_load.proofs.round.load_ready.Goals as goal

pub take_number-requires-clause-goes : goal.take_number-requires-clause-goes
take_number-requires-clause-goes g c = (c.requires.goes.0, c.requires.goes.1, g.S.Source.state c.args.source.now, c.requires.goes.2)

pub finish_ready-requires-clause-goes : goal.finish_ready-requires-clause-goes
finish_ready-requires-clause-goes g c =
    let known = c.requires.goes.0 in
    let before = c.requires.goes.1 in
    let now = g.S.Source.state c.args.source.now in
    let given = rw c.in-Ok-Some.field-0-is at (c.in-Ok-Some.ensures known before now c.requires.goes.2) in
    (known, before, given_goes known before now now c.args.driver.now c.take_number.new.driver c.take_number.new.driver c.in-Ok-Some.claim c.take_number.new.units given c.requires.waiting)

pub finish_ready-requires-clause-work : goal.finish_ready-requires-clause-work
finish_ready-requires-clause-work g c =
    let given = rw c.in-Ok-Some.field-0-is at (c.in-Ok-Some.ensures c.requires.goes.0 c.requires.goes.1 (g.S.Source.state c.args.source.now) c.requires.goes.2) in
    unit_waits (key_of c.in-Ok-Some.claim.key) given.unit

pub finish_ready-requires-clause-right : goal.finish_ready-requires-clause-right
finish_ready-requires-clause-right g c =
    let known = c.requires.goes.0 in
    let before = c.requires.goes.1 in
    let now = g.S.Source.state c.args.source.now in
    let given = rw c.in-Ok-Some.field-0-is at (c.in-Ok-Some.ensures known before now c.requires.goes.2) in
    given_right known before now now c.args.driver.now c.take_number.new.driver c.take_number.new.driver c.in-Ok-Some.claim c.take_number.new.units given c.args.ready c.requires.right

pub returns-in-Ok-Some : goal.returns-in-Ok-Some
returns-in-Ok-Some g c = λ known before goes.
    let was = g.S.Source.state c.args.source.now in
    let now = g.S.Source.state c.finish_ready.new.source in
    let old = c.args.driver.now in
    let mid = c.take_number.new.driver in
    let given = rw c.in-Ok-Some.field-0-is at (c.in-Ok-Some.ensures known before was goes) in
    loads_one known before was now old mid c.finish_ready.new.driver c.in-Ok-Some.claim c.take_number.new.units given c.finish_ready.result
    (c.finish_ready.ensures known before (given_goes known before was was old mid mid c.in-Ok-Some.claim c.take_number.new.units given c.requires.waiting))

pub returns-in-Ok-None : goal.returns-in-Ok-None
returns-in-Ok-None g c = λ known before goes.
    let gone = rw c.in-Ok-None.field-0-is at (c.in-Ok-None.ensures known before (g.S.Source.state c.args.source.now) goes) in
    (gone.0, ap (λ w. w.items) gone.1 ∙ c.requires.waiting)

pub returns-in-Err : goal.returns-in-Err
returns-in-Err g c = λ known before goes. c.in-Err.ensures known before (g.S.Source.state c.args.source.now) goes
