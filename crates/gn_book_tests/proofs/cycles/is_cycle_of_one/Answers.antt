use Rattle.std.proofs.Common.{ap}
use Rattle.gn_book.specs.Logs.{Log}
use Rattle.gn_book_tests.proofs.Claims.{none_at_first}
use Rattle.gn_book_tests.proofs.cycles.is_cycle_of_one.Goals as goal

pub load_by_one-is_closed-requires : goal.load_by_one-is_closed-requires
load_by_one-is_closed-requires c = none_at_first c.in_ok-book.book 0 (ap (λ (l : Log). l.events) c.in_ok-book.ensures)
