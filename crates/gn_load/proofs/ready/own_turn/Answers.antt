use Rattle.std.proofs.Common.{[], ◌∷◌, subst, sym}
use Rattle.gn_paths.specs.declared.place.Place.{Place}
use Rattle.gn_runs.specs.Runs.{content_of}
use Rattle.gn_executions.specs.Units.{own_place}
use Rattle.gn_core.specs.Keys.{Read}
use Rattle.gn_load.specs.Turns.{IsNeeded}
use Rattle.gn_load.proofs.TurnLemmas.{goes_memory, turn_lacks}
use Rattle.gn_load.proofs.ready.own_turn.Goals as goal

pub need_file-requires-clause-lacked : goal.need_file-requires-clause-lacked
need_file-requires-clause-lacked g c =
    turn_lacks c.requires.goes.0 c.requires.goes.1 (g.S.Source.state c.args.source.now) c.args.driver.now c.args.claim (Read c.args.path) (own_place c.args.path) (content_of c.args.path ∷ []) c.requires.goes.2
    (c.requires.needed c.args.driver.now.base.start, tt)

pub returns-in-Ok : goal.returns-in-Ok
returns-in-Ok g c = λ known before goes.
    c.need_file.ensures known before (content_of c.args.path ∷ []) goes
    (subst (λ (p : Place). IsNeeded c.args.driver.now.base.start c.args.driver.now.book c.args.claim (Read c.args.path) p (content_of c.args.path ∷ [])) (sym c.in-Ok.ensures) (c.requires.needed c.args.driver.now.base.start, tt))

pub returns-in-Err : goal.returns-in-Err
returns-in-Err g c = λ known before goes. goes_memory known before (g.S.Source.state c.args.source.now) c.args.driver.now _ goes
