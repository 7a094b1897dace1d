use Rattle.std.proofs.Common.{◌++◌}
use Rattle.gn_book.specs.Keys.{key_of}
use Rattle.gn_load.proofs.PlainLemmas.{finished_counted, unit_waits}
use Rattle.gn_load.proofs.RoundLemmas.{waits_goes, finished_ahead, next_looked, next_stops}
use Rattle.gn_load.proofs.ahead.load_next.Goals as goal

pub finish-requires-clause-goes : goal.finish-requires-clause-goes
finish-requires-clause-goes g c =
    let goes = c.requires.goes.2 in
    (c.requires.goes.0 ++ goes.all, goes.mid, waits_goes c.requires.goes.0 c.requires.goes.1 (g.S.Source.state c.args.source.now) c.args.driver.now c.args.claim c.args.ahead.now.total goes c.requires.waiting)

pub finish-requires-clause-work : goal.finish-requires-clause-work
finish-requires-clause-work g c = unit_waits (key_of c.args.claim.key) c.requires.unit

pub returns-in_err-finish : goal.returns-in_err-finish
returns-in_err-finish g c = λ known before goes.
    let now = g.S.Source.state c.args.source.now in
    next_stops known before now (g.S.Source.state c.finish.new.source) c.args.driver.now _ c.args.claim c.args.ahead.now.total goes c.args.units.now c.requires.counted _ c.args.copies.now c.from_residual.result _ c.from_residual.ensures.1
    (c.in_err-finish.ensures (known ++ goes.all) goes.mid (waits_goes known before now c.args.driver.now c.args.claim c.args.ahead.now.total goes c.requires.waiting))

pub look_ahead-requires-clause-goes : goal.look_ahead-requires-clause-goes
look_ahead-requires-clause-goes g c = λ l lives.
    let known = c.requires.goes.0 in
    let before = c.requires.goes.1 in
    let goes = c.requires.goes.2 in
    let now = g.S.Source.state c.args.source.now in
    let done = c.in_ok-finish.ensures (known ++ goes.all) goes.mid (waits_goes known before now c.args.driver.now c.args.claim c.args.ahead.now.total goes c.requires.waiting) in
    (known, before, finished_ahead known before now (g.S.Source.state c.finish.new.source) c.args.driver.now c.finish.new.driver c.args.claim c.args.ahead.now.total goes done.0)

pub look_ahead-requires-clause-waiting : goal.look_ahead-requires-clause-waiting
look_ahead-requires-clause-waiting g c = λ l lives.
    let known = c.requires.goes.0 in
    let before = c.requires.goes.1 in
    let goes = c.requires.goes.2 in
    (c.in_ok-finish.ensures (known ++ goes.all) goes.mid (waits_goes known before (g.S.Source.state c.args.source.now) c.args.driver.now c.args.claim c.args.ahead.now.total goes c.requires.waiting)).1

pub look_ahead-requires-clause-counted : goal.look_ahead-requires-clause-counted
look_ahead-requires-clause-counted g c = λ l lives.
    let known = c.requires.goes.0 in
    let before = c.requires.goes.1 in
    let goes = c.requires.goes.2 in
    let now = g.S.Source.state c.args.source.now in
    let done = c.in_ok-finish.ensures (known ++ goes.all) goes.mid (waits_goes known before now c.args.driver.now c.args.claim c.args.ahead.now.total goes c.requires.waiting) in
    finished_counted (known ++ goes.all) goes.mid now (g.S.Source.state c.finish.new.source) c.args.driver.now c.finish.new.driver c.args.claim c.args.units.now goes.goes done.0 c.requires.counted

pub look_ahead-requires-clause-copied : goal.look_ahead-requires-clause-copied
look_ahead-requires-clause-copied g c = λ l lives.
    let known = c.requires.goes.0 in
    let before = c.requires.goes.1 in
    let goes = c.requires.goes.2 in
    let done = c.in_ok-finish.ensures (known ++ goes.all) goes.mid (waits_goes known before (g.S.Source.state c.args.source.now) c.args.driver.now c.args.claim c.args.ahead.now.total goes c.requires.waiting) in
    λ k v h. done.0.more k v (c.requires.copied k v h)

pub returns : goal.returns
returns g c = λ known before goes.
    let was = g.S.Source.state c.args.source.now in
    let mid = g.S.Source.state c.finish.new.source in
    let now = g.S.Source.state c.look_ahead.new.source in
    let done = c.in_ok-finish.ensures (known ++ goes.all) goes.mid (waits_goes known before was c.args.driver.now c.args.claim c.args.ahead.now.total goes c.requires.waiting) in
    next_looked known before was mid now c.args.driver.now c.finish.new.driver c.look_ahead.new.driver c.args.claim c.args.ahead.now.total c.look_ahead.new.units c.look_ahead.new.ahead.total c.look_ahead.new.copies goes c.requires.unit c.requires.numbered done.0 c.look_ahead.result
    (c.look_ahead.ensures known before (finished_ahead known before was mid c.args.driver.now c.finish.new.driver c.args.claim c.args.ahead.now.total goes done.0))
