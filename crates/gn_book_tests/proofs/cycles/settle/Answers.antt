use Rattle.gn_book_tests.proofs.Claims.{others_kept}
use Rattle.gn_book_tests.proofs.cycles.settle.Goals as goal

pub file-requires-clause-number : goal.file-requires-clause-number
file-requires-clause-number c = c.requires.number

pub file-requires-clause-claimed : goal.file-requires-clause-claimed
file-requires-clause-claimed c = c.requires.claimed

pub returns-in-Ok : goal.returns-in-Ok
returns-in-Ok c = others_kept c.claims_stay.ensures.stay c.args.book.now c.file.new.self c.args.claim.number c.args.claim.seat _ c.in-Ok.ensures.ok
