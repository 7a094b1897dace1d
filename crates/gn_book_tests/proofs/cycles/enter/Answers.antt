use Rattle.gn_book_tests.proofs.Claims.{still_unclaimed, keeps_more, claim_given}
use Rattle.gn_book_tests.proofs.cycles.enter.Goals as goal

pub ready-requires : goal.ready-requires
ready-requires c = still_unclaimed c.args.book.now c.number_reached.new.self c.args.seat c.number_reached.ensures.keys c.requires

pub claim-requires-clause-number : goal.claim-requires-clause-number
claim-requires-clause-number c = c.in-Some.ensures.number

pub claim-requires-clause-free : goal.claim-requires-clause-free
claim-requires-clause-free c = c.in-Some.ensures.free

pub returns-in-None : goal.returns-in-None
returns-in-None c = keeps_more c.args.book.now c.number_reached.new.self c.number_reached.ensures.keys

pub returns-in_ok-claim-in-Some : goal.returns-in_ok-claim-in-Some
returns-in_ok-claim-in-Some c =
    let done = claim_given c.claims_stay.ensures.given c.claims_stay.ensures.stay c.args.book.now c.number_reached.new.self c.claim.new.self c.in_ok-claim-in-Some.claim c.args.seat c.in-Some.key c.number_reached.ensures.keys
    c.in-Some.ensures.number c.in-Some.ensures.free c.in_ok-claim-in-Some.ensures.ok c.in_ok-claim-in-Some.ensures.claim.1 c.in_ok-claim-in-Some.ensures.claim.2 in
    (done.1, done.0)
