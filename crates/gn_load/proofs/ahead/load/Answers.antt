use Rattle.std.proofs.Common.{[], arith, sym, ◌∙◌, subst}
use Rattle.gn_executions.specs.Base.{BaseState}
use Rattle.gn_book.specs.Logs.{state_of}
use Rattle.gn_load.specs.Turns.{known_paths}
use Rattle.gn_load.specs.Plain.{IsLoad, IsLoadedAs}
use Rattle.gn_load.proofs.EndLemmas.{nothing_loaded, load_lost}
use Rattle.gn_load.proofs.AheadEnds.{stopped_ahead}
use Rattle.gn_load.proofs.RebasedDriver.{starts_ahead}
use Rattle.gn_load.proofs.RoundLemmas.{ended_loads}
use Rattle.gn_load.proofs.ahead.load.Goals as goal

pub returns-in_err-driver : goal.returns-in_err-driver
returns-in_err-driver g c =
    let laws = c.only_what_is_asked_is_loaded.ensures in
    load_lost _ c.args.base (known_paths c.args.known.entries) (g.S.Source.state c.args.source.now) (g.S.Source.state c.args.source.now) c.args.units.now c.from_residual.result c.from_residual.ensures.1
    (nothing_loaded laws.reads laws.begun laws.counted c.args.base (known_paths c.args.known.entries) c.requires.differ (g.S.Source.state c.args.source.now) c.args.units.now c.requires.units)

pub drive-requires-clause-goes : goal.drive-requires-clause-goes
drive-requires-clause-goes g c = λ l lives.
    let now = g.S.Source.state c.args.source.now in
    let known = known_paths c.args.known.entries in
    (known, now, starts_ahead known now c.in_ok-driver.driver [] (c.in_ok-driver.ensures.goes now c.requires.known))

pub drive-requires-clause-waiting : goal.drive-requires-clause-waiting
drive-requires-clause-waiting g c = λ l lives. c.in_ok-driver.ensures.waiting

pub drive-requires-clause-counted : goal.drive-requires-clause-counted
drive-requires-clause-counted g c = λ l lives. c.requires.units ∙ sym c.in_ok-driver.ensures.counted

pub drive-requires-clause-copied : goal.drive-requires-clause-copied
drive-requires-clause-copied g c = λ l lives. c.new-copies.ensures (state_of c.in_ok-driver.driver.book).filed

pub ended_ahead-requires-clause-rest : goal.ended_ahead-requires-clause-rest
ended_ahead-requires-clause-rest g c =
    let now = g.S.Source.state c.args.source.now in
    let known = known_paths c.args.known.entries in
    (rw c.in-Ok.is at (c.drive.ensures known now (starts_ahead known now c.in_ok-driver.driver [] (c.in_ok-driver.ensures.goes now c.requires.known)))).0.rests

pub ended_ahead-requires-clause-few : goal.ended_ahead-requires-clause-few
ended_ahead-requires-clause-few g c =
    let now = g.S.Source.state c.args.source.now in
    let known = known_paths c.args.known.entries in
    (rw c.in-Ok.is at (c.drive.ensures known now (starts_ahead known now c.in_ok-driver.driver [] (c.in_ok-driver.ensures.goes now c.requires.known)))).0.few

pub ended_ahead-requires-clause-total : goal.ended_ahead-requires-clause-total
ended_ahead-requires-clause-total g c =
    let now = g.S.Source.state c.args.source.now in
    let known = known_paths c.args.known.entries in
    (rw c.in-Ok.is at (c.drive.ensures known now (starts_ahead known now c.in_ok-driver.driver [] (c.in_ok-driver.ensures.goes now c.requires.known)))).0.goes.few

pub returns-in-Ok : goal.returns-in-Ok
returns-in-Ok g c =
    let laws = c.only_what_is_asked_is_loaded.ensures in
    let now = g.S.Source.state c.args.source.now in
    let known = known_paths c.args.known.entries in
    let whole = rw c.in-Ok.is at (c.drive.ensures known now (starts_ahead known now c.in_ok-driver.driver [] (c.in_ok-driver.ensures.goes now c.requires.known))) in
    subst (λ (b : BaseState). IsLoad b known now (g.S.Source.state c.drive.new.source) c.drive.new.units c.ended_ahead.result) (whole.1 ∙ c.in_ok-driver.ensures.start)
    (ended_loads laws.begun laws.counted known c.requires.differ now (g.S.Source.state c.drive.new.source) c.drive.new.driver c.drive.new.units c.drive.new.ahead.total whole.0 c.ended_ahead.result c.ended_ahead.ensures)

pub returns-in-Err : goal.returns-in-Err
returns-in-Err g c =
    let laws = c.only_what_is_asked_is_loaded.ensures in
    let now = g.S.Source.state c.args.source.now in
    let known = known_paths c.args.known.entries in
    let stops = rw c.in-Err.is at (c.drive.ensures known now (starts_ahead known now c.in_ok-driver.driver [] (c.in_ok-driver.ensures.goes now c.requires.known))) in
    subst (λ (b : BaseState). IsLoadedAs b known now (g.S.Source.state c.drive.new.source) c.drive.new.units c.stopped.result) c.in_ok-driver.ensures.start
    (stopped_ahead laws.begun laws.counted _ known c.requires.differ now (g.S.Source.state c.drive.new.source) c.drive.new.units stops.1 c.in-Err.stop c.stopped.result stops.0 c.stopped.ensures)
