use Rattle.gn_book_tests.proofs.Claims.{taken_some}
use Rattle.gn_book_tests.proofs.cycles.need_other.Goals as goal

pub wait_and_close-requires-clause-first : goal.wait_and_close-requires-clause-first
wait_and_close-requires-clause-first c = ((taken_some c.args.book.now c.begin.new.book _ c.in-Some.second c.in-Some.is c.in_ok-begin.ensures).0 c.args.claims.0.number c.args.claims.0.seat c.requires.first).0

pub wait_and_close-requires-clause-second : goal.wait_and_close-requires-clause-second
wait_and_close-requires-clause-second c = (taken_some c.args.book.now c.begin.new.book _ c.in-Some.second c.in-Some.is c.in_ok-begin.ensures).1.has

pub wait_and_close-requires-clause-apart : goal.wait_and_close-requires-clause-apart
wait_and_close-requires-clause-apart c = (taken_some c.args.book.now c.begin.new.book _ c.in-Some.second c.in-Some.is c.in_ok-begin.ensures).1.apart c.args.claims.0.number c.args.claims.0.seat c.requires.first
