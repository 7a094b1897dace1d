use Rattle.std.proofs.Common.{◌<◌, List, refl, subst}
use Rattle.gn_book.specs.declared.book.Claim.{Claim}
use Rattle.gn_builds.specs.Driving.{left_to_do}
use Rattle.gn_load.specs.Current.{layer_now}
use Rattle.gn_load.specs.Turns.{room_of, IsTurned}
use Rattle.gn_load.specs.declared.current.CurrentBase.{CurrentBase}
use Rattle.gn_load.proofs.KeptLemmas.{kept_on}
use Rattle.gn_load.proofs.TurnLemmas.{turned_on, finish_stops}
use Rattle.gn_load.proofs.driver.finish.Goals as goal

pub returns-in_err-next : goal.returns-in_err-next
returns-in_err-next g c = λ known before goes.
    finish_stops known before (g.S.Source.state c.turn.new.source) c.args.driver.now c.args.driver.now _ c.from_residual.result _ refl c.from_residual.ensures.1 (c.in_err-next.ensures.turn known before goes)

pub turns-init : goal.turns-init
turns-init g c =
    let stands = c.in_ok-next.ensures.turn c.requires.goes.0 c.requires.goes.1 c.requires.goes.2 in
    record {
      turned = λ known before goes. c.in_ok-next.ensures.turn known before goes;
      rests = kept_on c.args.driver.now c.turn.new.driver stands.0.base stands.0.more c.turn.new.rests.items c.in_ok-next.ensures.rests;
    }

pub turn-requires-in-Some-clause-goes : goal.turn-requires-in-Some-clause-goes
turn-requires-in-Some-clause-goes g c =
    let stands = rw c.in-Some.is at (c.turns.invariant.turned c.requires.goes.0 c.requires.goes.1 c.requires.goes.2) in
    (c.requires.goes.0, c.requires.goes.1, stands.0.goes)

pub turn-requires-in-Some-clause-work : goal.turn-requires-in-Some-clause-work
turn-requires-in-Some-clause-work g c = let stands = rw c.in-Some.is at (c.turns.invariant.turned c.requires.goes.0 c.requires.goes.1 c.requires.goes.2) in stands.2

pub returns-in_err-next-2 : goal.returns-in_err-next-2
returns-in_err-next-2 g c = λ known before goes.
    let stands = rw c.in-Some.is at (c.turns.invariant.turned known before goes) in
    finish_stops known before (g.S.Source.state c.turn-in-Some.new.source) c.args.driver.now c.turns.driver _ c.from_residual-in_err-next-2.result _ stands.0.base c.from_residual-in_err-next-2.ensures.1 (c.in_err-next-2.ensures.turn known before stands.0.goes)

pub turns-preserved : goal.turns-preserved
turns-preserved g c =
    let was = rw c.in-Some.is at (c.turns.invariant.turned c.requires.goes.0 c.requires.goes.1 c.requires.goes.2) in
    let now = c.in_ok-next-2.ensures.turn c.requires.goes.0 c.requires.goes.1 was.0.goes in
    record {
      turned = λ known before goes.
          let stands = rw c.in-Some.is at (c.turns.invariant.turned known before goes) in
          let more = c.in_ok-next-2.ensures.turn known before stands.0.goes in
          (turned_on known before (g.S.Source.state c.turns.source) (g.S.Source.state c.turn-in-Some.new.source) c.args.driver.now c.turns.driver c.turn-in-Some.new.driver _ _ stands.0 more.0, more.1, more.2);
      rests = kept_on c.turns.driver c.turn-in-Some.new.driver now.0.base now.0.more c.turn-in-Some.new.rests.items c.in_ok-next-2.ensures.rests;
    }

pub turns-smaller : goal.turns-smaller
turns-smaller g c =
    let stands = rw c.in-Some.is at (c.turns.invariant.turned c.requires.goes.0 c.requires.goes.1 c.requires.goes.2) in
    subst (λ (b : CurrentBase). left_to_do (layer_now b) (room_of c.turn-in-Some.new.driver) c.turn-in-Some.new.driver.book < left_to_do (layer_now b) (room_of c.turns.driver) c.turns.driver.book) stands.0.base
    (c.in_ok-next-2.ensures.turn c.requires.goes.0 c.requires.goes.1 stands.0.goes).0.less

pub returns : goal.returns
returns g c = λ known before goes.
    let stands = rw c.in_default.is at (c.turns.invariant.turned known before goes) in
    (subst (λ (ws : List Claim). IsTurned known before (g.S.Source.state c.turns.source) c.args.driver.now c.turns.driver ws) stands.1 stands.0, stands.1)
