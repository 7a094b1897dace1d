use Rattle.gn_book_tests.proofs.Claims.{taken_some}
use Rattle.gn_book_tests.proofs.cycles.load_by_one.Goals as goal

pub need_first-is_closed-requires : goal.need_first-is_closed-requires
need_first-is_closed-requires c = (taken_some c.args.book.now c.enter.new.book _ c.in-Some.entry c.in-Some.is c.in_ok-enter.ensures).1.has
