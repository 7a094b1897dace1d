use Rattle.gn_book_tests.proofs.Claims.{taken_some}
use Rattle.gn_book_tests.proofs.cycles.need_first.Goals as goal

pub need_second-requires : goal.need_second-requires
need_second-requires c = (taken_some c.args.book.now c.begin.new.book _ c.in-Some.first c.in-Some.is c.in_ok-begin.ensures).1.has
