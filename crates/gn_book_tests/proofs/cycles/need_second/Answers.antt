use Rattle.gn_book_tests.proofs.Claims.{taken_some}
use Rattle.gn_book_tests.proofs.cycles.need_second.Goals as goal

pub close-requires-clause-first : goal.close-requires-clause-first
close-requires-clause-first c = ((taken_some c.args.book.now c.begin.new.book _ c.in-Some.second c.in-Some.is c.in_ok-begin.ensures).0 c.args.first.number c.args.first.seat c.requires).0

pub close-requires-clause-second : goal.close-requires-clause-second
close-requires-clause-second c = (taken_some c.args.book.now c.begin.new.book _ c.in-Some.second c.in-Some.is c.in_ok-begin.ensures).1.has

pub close-requires-clause-apart : goal.close-requires-clause-apart
close-requires-clause-apart c = (taken_some c.args.book.now c.begin.new.book _ c.in-Some.second c.in-Some.is c.in_ok-begin.ensures).1.apart c.args.first.number c.args.first.seat c.requires
