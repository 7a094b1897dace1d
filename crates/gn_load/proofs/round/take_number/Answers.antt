use Rattle.std.proofs.Common.{[]}
use Rattle.gn_load.proofs.PlainLemmas.{has_begun, mid_counted}
use Rattle.gn_load.proofs.RoundLemmas.{gives_nothing, gives_unit, gives_lost, gives_stop}
use Rattle.gn_load.proofs.round.take_number.Goals as goal

pub returns-in_err-number_units : goal.returns-in_err-number_units
returns-in_err-number_units c = λ known before now goes.
    gives_stop known before now c.args.driver.now _ c.args.units.now c.from_residual.result _ c.from_residual.ensures.1 (c.in_err-number_units.ensures known before now goes)
    (has_begun known before now c.args.driver.now [] c.args.units.now goes c.requires.counted)

pub is_open-requires : goal.is_open-requires
is_open-requires c =
    let known = c.requires.goes.0 in
    let before = c.requires.goes.1 in
    let now = c.requires.goes.2 in
    record { goes = (known, before, now, (c.in_ok-number_units.ensures known before now c.requires.goes.3).goes) }

pub claim_unit-requires-clause-goes : goal.claim_unit-requires-clause-goes
claim_unit-requires-clause-goes c =
    let known = c.requires.goes.0 in
    let before = c.requires.goes.1 in
    let now = c.requires.goes.2 in
    (known, before, now, (c.in_ok-number_units.ensures known before now c.requires.goes.3).goes)

pub claim_unit-requires-clause-numbers : goal.claim_unit-requires-clause-numbers
claim_unit-requires-clause-numbers c = (c.in_ok-number_units.ensures c.requires.goes.0 c.requires.goes.1 c.requires.goes.2 c.requires.goes.3).numbered.numbers

pub claim_unit-requires-clause-few : goal.claim_unit-requires-clause-few
claim_unit-requires-clause-few c = (c.in_ok-number_units.ensures c.requires.goes.0 c.requires.goes.1 c.requires.goes.2 c.requires.goes.3).numbered.few

pub claim_unit-requires-clause-ready : goal.claim_unit-requires-clause-ready
claim_unit-requires-clause-ready c = c.is_open.ensures c.if-is_open.true

pub claim_unit-requires-clause-counted : goal.claim_unit-requires-clause-counted
claim_unit-requires-clause-counted c =
    let known = c.requires.goes.0 in
    let before = c.requires.goes.1 in
    let now = c.requires.goes.2 in
    mid_counted known before now c.args.driver.now c.number_units.new.driver (c.in_ok-number_units.ensures known before now c.requires.goes.3) c.args.units.now c.requires.counted

pub returns-in_err-claim_unit : goal.returns-in_err-claim_unit
returns-in_err-claim_unit c = λ known before now goes.
    let numbered = c.in_ok-number_units.ensures known before now goes in
    gives_lost known before now c.args.driver.now c.number_units.new.driver numbered c.claim_unit.new.driver c.claim_unit.new.units c.from_residual-in_err-claim_unit.result c.from_residual-in_err-claim_unit.ensures.1
    (c.in_err-claim_unit.ensures known before now numbered.goes)

pub returns-in_ok-claim_unit : goal.returns-in_ok-claim_unit
returns-in_ok-claim_unit c = λ known before now goes.
    let numbered = c.in_ok-number_units.ensures known before now goes in
    gives_unit known before now c.args.driver.now c.number_units.new.driver numbered c.claim_unit.new.driver c.claim_unit.new.units _ (c.in_ok-claim_unit.ensures known before now numbered.goes)

pub returns-else-is_open : goal.returns-else-is_open
returns-else-is_open c = λ known before now goes.
    gives_nothing known before now c.args.driver.now c.number_units.new.driver (c.in_ok-number_units.ensures known before now goes) c.args.units.now c.requires.counted
