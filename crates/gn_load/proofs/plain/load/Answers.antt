use Rattle.std.proofs.Common.{sym, ◌∙◌, subst}
use Rattle.gn_executions.specs.Base.{BaseState}
use Rattle.gn_load.specs.Turns.{known_paths}
use Rattle.gn_load.specs.Plain.{IsLoad, IsLoadedAs}
use Rattle.gn_load.proofs.EndLemmas.{loaded_as, stopped_end, nothing_loaded, load_lost}
use Rattle.gn_load.proofs.plain.load.Goals as goal

pub returns-in_err-driver : goal.returns-in_err-driver
returns-in_err-driver g c =
    let laws = c.only_what_is_asked_is_loaded.ensures in
    load_lost _ c.args.base (known_paths c.args.known.entries) (g.S.Source.state c.args.source.now) (g.S.Source.state c.args.source.now) c.args.units.now c.from_residual.result c.from_residual.ensures.1
    (nothing_loaded laws.reads laws.begun laws.counted c.args.base (known_paths c.args.known.entries) c.requires.differ (g.S.Source.state c.args.source.now) c.args.units.now c.requires.units)

pub drive-requires-clause-goes : goal.drive-requires-clause-goes
drive-requires-clause-goes g c = (known_paths c.args.known.entries, g.S.Source.state c.args.source.now, (c.in_ok-driver.ensures.goes (g.S.Source.state c.args.source.now) c.requires.known))

pub drive-requires-clause-counted : goal.drive-requires-clause-counted
drive-requires-clause-counted g c = c.requires.units ∙ sym c.in_ok-driver.ensures.counted

pub ended-requires-clause-rest : goal.ended-requires-clause-rest
ended-requires-clause-rest g c = (rw c.in-Ok.is at (c.drive.ensures (known_paths c.args.known.entries) (g.S.Source.state c.args.source.now) (c.in_ok-driver.ensures.goes (g.S.Source.state c.args.source.now) c.requires.known))).0.rests

pub ended-requires-clause-few : goal.ended-requires-clause-few
ended-requires-clause-few g c = (rw c.in-Ok.is at (c.drive.ensures (known_paths c.args.known.entries) (g.S.Source.state c.args.source.now) (c.in_ok-driver.ensures.goes (g.S.Source.state c.args.source.now) c.requires.known))).0.few

pub returns-in-Ok : goal.returns-in-Ok
returns-in-Ok g c =
    let laws = c.only_what_is_asked_is_loaded.ensures in
    let whole = (rw c.in-Ok.is at (c.drive.ensures (known_paths c.args.known.entries) (g.S.Source.state c.args.source.now) (c.in_ok-driver.ensures.goes (g.S.Source.state c.args.source.now) c.requires.known))) in
    subst (λ (b : BaseState). IsLoad b (known_paths c.args.known.entries) (g.S.Source.state c.args.source.now) (g.S.Source.state c.drive.new.source) c.drive.new.units c.ended.result) (whole.1 ∙ c.in_ok-driver.ensures.start)
    (loaded_as laws.reads laws.begun laws.counted (known_paths c.args.known.entries) c.requires.differ (g.S.Source.state c.args.source.now) (g.S.Source.state c.drive.new.source) c.drive.new.driver c.drive.new.units whole.0 c.ended.result c.ended.ensures)

pub returns-in-Err : goal.returns-in-Err
returns-in-Err g c =
    let laws = c.only_what_is_asked_is_loaded.ensures in
    let stops = rw c.in-Err.is at (c.drive.ensures (known_paths c.args.known.entries) (g.S.Source.state c.args.source.now) (c.in_ok-driver.ensures.goes (g.S.Source.state c.args.source.now) c.requires.known)) in
    subst (λ (b : BaseState). IsLoadedAs b (known_paths c.args.known.entries) (g.S.Source.state c.args.source.now) (g.S.Source.state c.drive.new.source) c.drive.new.units c.stopped.result) c.in_ok-driver.ensures.start
    (stopped_end laws.reads laws.begun laws.counted laws.large _ (known_paths c.args.known.entries) c.requires.differ
    (g.S.Source.state c.args.source.now) (g.S.Source.state c.drive.new.source) c.drive.new.units stops.1 c.in-Err.stop c.stopped.result stops.0 c.stopped.ensures)
