use Rattle.std.proofs.Common.{[]}
use Rattle.gn_load.proofs.PlainLemmas.{has_begun, none_claimed, none_later, none_stopped, mid_counted, takes_nothing, takes_unit, takes_lost, takes_stop}
use Rattle.gn_load.proofs.plain.take_up.Goals as goal

pub returns-in_err-number_units : goal.returns-in_err-number_units
returns-in_err-number_units c = λ known before now goes.
    takes_stop known before now c.args.driver.now _ c.args.units.now c.from_residual.result _ c.from_residual.ensures.1 (c.in_err-number_units.ensures known before now goes)
    (has_begun known before now c.args.driver.now [] c.args.units.now goes c.requires.counted)

pub next-requires : goal.next-requires
next-requires c =
    let known = c.requires.goes.0 in
    let before = c.requires.goes.1 in
    let now = c.requires.goes.2 in
    none_claimed known before now c.number_units.new.driver (c.in_ok-number_units.ensures known before now c.requires.goes.3).goes

pub claim_unit-requires-clause-goes : goal.claim_unit-requires-clause-goes
claim_unit-requires-clause-goes c =
    let known = c.requires.goes.0 in
    let before = c.requires.goes.1 in
    let now = c.requires.goes.2 in
    (known, before, now, (c.in_ok-number_units.ensures known before now c.requires.goes.3).goes)

pub claim_unit-requires-clause-numbers : goal.claim_unit-requires-clause-numbers
claim_unit-requires-clause-numbers c = (c.in_ok-number_units.ensures c.requires.goes.0 c.requires.goes.1 c.requires.goes.2 c.requires.goes.3).numbered.numbers

pub claim_unit-requires-clause-few : goal.claim_unit-requires-clause-few
claim_unit-requires-clause-few c = (c.in_ok-number_units.ensures c.requires.goes.0 c.requires.goes.1 c.requires.goes.2 c.requires.goes.3).numbered.few

pub claim_unit-requires-clause-ready : goal.claim_unit-requires-clause-ready
claim_unit-requires-clause-ready c = c.in-Work.ensures.1

pub claim_unit-requires-clause-counted : goal.claim_unit-requires-clause-counted
claim_unit-requires-clause-counted c =
    let known = c.requires.goes.0 in
    let before = c.requires.goes.1 in
    let now = c.requires.goes.2 in
    mid_counted known before now c.args.driver.now c.number_units.new.driver (c.in_ok-number_units.ensures known before now c.requires.goes.3) c.args.units.now c.requires.counted

pub returns-in_err-claim_unit-in-Work : goal.returns-in_err-claim_unit-in-Work
returns-in_err-claim_unit-in-Work c = λ known before now goes.
    let numbered = c.in_ok-number_units.ensures known before now goes in
    takes_lost known before now c.args.driver.now c.number_units.new.driver numbered c.claim_unit.new.driver c.claim_unit.new.units c.from_residual-in_err-claim_unit-in-Work.result c.from_residual-in_err-claim_unit-in-Work.ensures.1
    (c.in_err-claim_unit-in-Work.ensures known before now numbered.goes)

pub returns-in_ok-claim_unit-in-Work : goal.returns-in_ok-claim_unit-in-Work
returns-in_ok-claim_unit-in-Work c = λ known before now goes.
    let numbered = c.in_ok-number_units.ensures known before now goes in
    takes_unit known before now c.args.driver.now c.number_units.new.driver numbered c.claim_unit.new.driver c.claim_unit.new.units _ (c.in_ok-claim_unit-in-Work.ensures known before now numbered.goes)

pub returns-in-Quiet : goal.returns-in-Quiet
returns-in-Quiet c = λ known before now goes.
    takes_nothing known before now c.args.driver.now c.number_units.new.driver (c.in_ok-number_units.ensures known before now goes) c.args.units.now c.requires.counted c.in-Quiet.ensures

pub unreachable-requires : goal.unreachable-requires
unreachable-requires c =
    let known = c.requires.goes.0 in
    let before = c.requires.goes.1 in
    let now = c.requires.goes.2 in
    none_later known before now c.number_units.new.driver (c.in_ok-number_units.ensures known before now c.requires.goes.3).goes _ _ c.in-Later.ensures.3

pub unreachable-requires-in-Stopped : goal.unreachable-requires-in-Stopped
unreachable-requires-in-Stopped c =
    let known = c.requires.goes.0 in
    let before = c.requires.goes.1 in
    let now = c.requires.goes.2 in
    none_stopped known before now c.number_units.new.driver (c.in_ok-number_units.ensures known before now c.requires.goes.3).goes _ c.in-Stopped.ensures
