use Rattle.std.proofs.lemmas.Option.{slice_get_within}
use Rattle.gn_book.specs.Keys.{key_of}
use Rattle.gn_book_tests.proofs.Claims.{all_result, free_at_first}
use Rattle.gn_book_tests.proofs.cycles.claim_first.Goals as goal

pub claim-requires-clause-number : goal.claim-requires-clause-number
claim-requires-clause-number c = slice_get_within c.number.new.self.keys c.in_ok-number.number (key_of c.in_ok-key.key) c.in_ok-number.ensures.number

pub claim-requires-clause-free : goal.claim-requires-clause-free
claim-requires-clause-free c = free_at_first c.args.book.now c.number.new.self (key_of c.in_ok-key.key) c.in_ok-number.number c.requires c.in_ok-number.ensures.ok

pub returns : goal.returns
returns c = all_result c.claims_stay.ensures.given c.args.book.now c.number.new.self c.claim.new.self (key_of c.in_ok-key.key) c.in_ok-number.number c.requires c.in_ok-number.ensures.ok
    (slice_get_within c.number.new.self.keys c.in_ok-number.number (key_of c.in_ok-key.key) c.in_ok-number.ensures.number) c.claim.result c.claim.ensures.ok c.claim.ensures.claim
