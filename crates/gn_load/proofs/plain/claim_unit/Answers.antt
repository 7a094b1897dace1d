use Rattle.std.proofs.Common.{[], refl, arith}
use Rattle.gn_book.specs.Keys.{key_of}
use Rattle.gn_load.proofs.PlainLemmas.{has_begun, counts_few, claims_unit, claim_begun, claims_as, claim_lost}
use Rattle.gn_load.proofs.plain.claim_unit.Goals as goal

pub claim-requires-clause-number : goal.claim-requires-clause-number
claim-requires-clause-number c = c.requires.ready.number

pub claim-requires-clause-free : goal.claim-requires-clause-free
claim-requires-clause-free c = c.requires.ready.free

pub returns-in_err-claim : goal.returns-in_err-claim
returns-in_err-claim c = λ known before now goes.
    claim_lost _ known before now c.args.driver.now _ c.args.units.now c.from_residual.result c.from_residual.ensures.1 (has_begun known before now c.args.driver.now [] c.args.units.now goes c.requires.counted)

pub overflow_add-units : goal.overflow_add-units
overflow_add-units c =
    let few = counts_few c.args.driver.now.book c.args.units.now c.file_count.result (key_of c.in_ok-claim.claim.key) c.requires.goes.3.going.driven.apart (record { numbers = c.requires.numbers; few = c.requires.few }) c.requires.counted c.file_count.ensures in
    omega (arith, few)

pub turn_to_unit-requires : goal.turn_to_unit-requires
turn_to_unit-requires c =
    claims_unit c.requires.goes.0 c.requires.goes.1 c.requires.goes.2 c.args.driver.now c.args.driver.now c.requires.goes.3 (record { numbers = c.requires.numbers; few = c.requires.few }) c.args.number c.in_ok-claim.claim c.requires.ready
    c.in_ok-claim.ensures.claim.0 c.in_ok-claim.ensures.claim.1 c.in_ok-claim.ensures.claim.2

pub returns-in_err-turn_to_unit : goal.returns-in_err-turn_to_unit
returns-in_err-turn_to_unit c = λ known before now goes.
    claim_lost _ known before now c.args.driver.now _ _ c.from_residual-in_err-turn_to_unit.result c.from_residual-in_err-turn_to_unit.ensures.1
    (claim_begun known before now c.args.driver.now c.args.driver.now goes (record { numbers = c.requires.numbers; few = c.requires.few }) c.args.number c.in_ok-claim.claim c.requires.ready
    c.in_ok-claim.ensures.claim.0 c.in_ok-claim.ensures.claim.1 c.in_ok-claim.ensures.claim.2 c.args.units.now c.file_count.result c.requires.counted c.file_count.ensures)

pub returns : goal.returns
returns c = λ known before now goes.
    claims_as known before now c.args.driver.now _ goes (record { numbers = c.requires.numbers; few = c.requires.few }) c.args.number c.in_ok-claim.claim c.requires.ready
    c.in_ok-claim.ensures.claim.0 c.in_ok-claim.ensures.claim.1 c.in_ok-claim.ensures.claim.2 c.in_ok-claim.ensures.ok refl refl refl (rw c.in_ok-claim.ensures.ok at c.in_ok-turn_to_unit.ensures.ok)
    c.args.units.now c.file_count.result c.requires.counted c.file_count.ensures
