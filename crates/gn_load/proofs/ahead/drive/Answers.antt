use Rattle.std.proofs.Common.{[], ◌++◌, refl, ◌∙◌, arith}
use Rattle.gn_load.proofs.RoundLemmas.{ahead_stops, taken_ahead, drive_ahead_ends, drive_ahead_stops}
use Rattle.gn_load.proofs.ahead.drive.Goals as goal

pub take_up-requires-clause-goes : goal.take_up-requires-clause-goes
take_up-requires-clause-goes g c = let goes = c.requires.goes.2 in (c.requires.goes.0 ++ goes.all, goes.mid, g.S.Source.state c.args.source.now, goes.goes)

pub returns-in_err-next : goal.returns-in_err-next
returns-in_err-next g c = λ known before goes.
    let now = g.S.Source.state c.args.source.now in
    let old = c.args.driver.now in
    drive_ahead_stops known before now old old c.take_up.new.driver c.take_up.new.units c.args.ahead.now.total c.from_residual.result _ refl c.from_residual.ensures.1
    (ahead_stops known before now now old [] c.args.ahead.now.total c.take_up.new.units goes _ (c.in_err-next.ensures (known ++ goes.all) goes.mid now goes.goes))

pub units-init : goal.units-init
units-init g c =
    let now = g.S.Source.state c.args.source.now in
    let first = c.requires.goes.2 in
    let more = (c.in_ok-next.ensures (c.requires.goes.0 ++ first.all) first.mid now first.goes).more in
    record {
      on = λ known before goes.
          let taken = c.in_ok-next.ensures (known ++ goes.all) goes.mid now goes.goes in
          (taken_ahead known before now c.args.driver.now c.take_up.new.driver c.take_up.new.units c.args.ahead.now.total c.in_ok-next.next goes c.requires.waiting taken, taken.start);
      copied = λ k v h. more k v (c.requires.copied k v h);
    }

pub load_next-requires-clause-goes : goal.load_next-requires-clause-goes
load_next-requires-clause-goes g c = λ l lives.
    let stands = rw c.in-Some.is at (c.units.invariant.on c.requires.goes.0 c.requires.goes.1 c.requires.goes.2) in
    (c.requires.goes.0, c.requires.goes.1, stands.0.goes)

pub load_next-requires-clause-waiting : goal.load_next-requires-clause-waiting
load_next-requires-clause-waiting g c = λ l lives. (rw c.in-Some.is at (c.units.invariant.on c.requires.goes.0 c.requires.goes.1 c.requires.goes.2)).0.waiting

pub load_next-requires-clause-unit : goal.load_next-requires-clause-unit
load_next-requires-clause-unit g c = λ l lives. (rw c.in-Some.is at (c.units.invariant.on c.requires.goes.0 c.requires.goes.1 c.requires.goes.2)).0.comes

pub load_next-requires-clause-numbered : goal.load_next-requires-clause-numbered
load_next-requires-clause-numbered g c = λ l lives. (rw c.in-Some.is at (c.units.invariant.on c.requires.goes.0 c.requires.goes.1 c.requires.goes.2)).0.numbered

pub load_next-requires-clause-counted : goal.load_next-requires-clause-counted
load_next-requires-clause-counted g c = λ l lives. (rw c.in-Some.is at (c.units.invariant.on c.requires.goes.0 c.requires.goes.1 c.requires.goes.2)).0.counted

pub load_next-requires-clause-copied : goal.load_next-requires-clause-copied
load_next-requires-clause-copied g c = λ l lives. c.units.invariant.copied

pub returns-in_err-load_next : goal.returns-in_err-load_next
returns-in_err-load_next g c = λ known before goes.
    let stands = rw c.in-Some.is at (c.units.invariant.on known before goes) in
    drive_ahead_stops known before (g.S.Source.state c.load_next.new.source) c.args.driver.now c.units.driver c.load_next.new.driver c.load_next.new.units c.load_next.new.ahead.total c.from_residual-in_err-load_next.result _ stands.1 c.from_residual-in_err-load_next.ensures.1
    (c.in_err-load_next.ensures known before stands.0.goes)

pub take_up-requires-in-Some-clause-goes : goal.take_up-requires-in-Some-clause-goes
take_up-requires-in-Some-clause-goes g c =
    let known = c.requires.goes.0 in
    let before = c.requires.goes.1 in
    let stands = rw c.in-Some.is at (c.units.invariant.on known before c.requires.goes.2) in
    let goes = (c.in_ok-load_next.ensures known before stands.0.goes).0.goes in
    (known ++ goes.all, goes.mid, g.S.Source.state c.load_next.new.source, goes.goes)

pub take_up-requires-in-Some-clause-counted : goal.take_up-requires-in-Some-clause-counted
take_up-requires-in-Some-clause-counted g c =
    let stands = rw c.in-Some.is at (c.units.invariant.on c.requires.goes.0 c.requires.goes.1 c.requires.goes.2) in
    (c.in_ok-load_next.ensures c.requires.goes.0 c.requires.goes.1 stands.0.goes).0.counted

pub returns-in_err-next-2 : goal.returns-in_err-next-2
returns-in_err-next-2 g c = λ known before goes.
    let stands = rw c.in-Some.is at (c.units.invariant.on known before goes) in
    let now = g.S.Source.state c.load_next.new.source in
    let done = (c.in_ok-load_next.ensures known before stands.0.goes).0 in
    let mid = c.load_next.new.driver in
    drive_ahead_stops known before now c.args.driver.now mid c.take_up-in-Some.new.driver c.take_up-in-Some.new.units c.load_next.new.ahead.total c.from_residual-in_err-next-2.result _ (done.start ∙ stands.1) c.from_residual-in_err-next-2.ensures.1
    (ahead_stops known before now now mid [] c.load_next.new.ahead.total c.take_up-in-Some.new.units done.goes _ (c.in_err-next-2.ensures (known ++ done.goes.all) done.goes.mid now done.goes.goes))

pub units-preserved : goal.units-preserved
units-preserved g c =
    let now = g.S.Source.state c.load_next.new.source in
    let first = c.in_ok-load_next.ensures c.requires.goes.0 c.requires.goes.1 (rw c.in-Some.is at (c.units.invariant.on c.requires.goes.0 c.requires.goes.1 c.requires.goes.2)).0.goes in
    let more = (c.in_ok-next-2.ensures (c.requires.goes.0 ++ first.0.goes.all) first.0.goes.mid now first.0.goes.goes).more in
    record {
      on = λ known before goes.
          let stands = rw c.in-Some.is at (c.units.invariant.on known before goes) in
          let done = (c.in_ok-load_next.ensures known before stands.0.goes).0 in
          let taken = c.in_ok-next-2.ensures (known ++ done.goes.all) done.goes.mid now done.goes.goes in
          (taken_ahead known before now c.load_next.new.driver c.take_up-in-Some.new.driver c.take_up-in-Some.new.units c.load_next.new.ahead.total _ done.goes done.waiting taken, taken.start ∙ done.start ∙ stands.1);
      copied = λ k v h. more k v (first.1.1 k v h);
    }

pub units-smaller : goal.units-smaller
units-smaller g c =
    let known = c.requires.goes.0 in
    let before = c.requires.goes.1 in
    let stands = rw c.in-Some.is at (c.units.invariant.on known before c.requires.goes.2) in
    let next = c.in_ok-load_next.ensures known before stands.0.goes in
    let goes = next.0.goes in
    let taken = c.in_ok-next-2.ensures (known ++ goes.all) goes.mid (g.S.Source.state c.load_next.new.source) goes.goes in
    let less = next.1.0 in
    let more = taken.left in
    omega (arith, less, more)

pub returns : goal.returns
returns g c = λ known before goes.
    let stands = rw c.in_default.is at (c.units.invariant.on known before goes) in
    (drive_ahead_ends known before (g.S.Source.state c.units.source) c.units.driver c.units.units c.units.ahead.total stands.0, stands.1)
