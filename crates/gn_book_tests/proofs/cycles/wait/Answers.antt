use Rattle.std.proofs.lemmas.Option.{slice_get_within}
use Rattle.gn_book.specs.Keys.{key_of}
use Rattle.gn_book_tests.proofs.Claims.{waiting_result, one_kept}
use Rattle.gn_book_tests.proofs.cycles.wait.Goals as goal

pub block-requires-clause-numbers : goal.block-requires-clause-numbers
block-requires-clause-numbers c = (
  (one_kept c.args.book.now c.number.new.self (key_of c.in_ok-key.key) c.in_ok-on.ensures.ok c.args.claim.now.number c.args.claim.now.seat c.requires).number,
  slice_get_within c.number.new.self.keys c.in_ok-on.on (key_of c.in_ok-key.key) c.in_ok-on.ensures.number,
)

pub block-requires-clause-claimed : goal.block-requires-clause-claimed
block-requires-clause-claimed c = (one_kept c.args.book.now c.number.new.self (key_of c.in_ok-key.key) c.in_ok-on.ensures.ok c.args.claim.now.number c.args.claim.now.seat c.requires).claimed

pub returns : goal.returns
returns c =
    waiting_result c.claims_stay.ensures.given c.claims_stay.ensures.stay c.args.book.now c.number.new.self c.block.new.self (key_of c.in_ok-key.key) c.args.claim.now.seat c.args.claim.now.number c.in_ok-on.on c.in_ok-place.place
    c.in_ok-on.ensures.ok (slice_get_within c.number.new.self.keys c.in_ok-on.on (key_of c.in_ok-key.key) c.in_ok-on.ensures.number) c.block.result c.block.ensures.ok
