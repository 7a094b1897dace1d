use Rattle.std.proofs.Common.{ap}
use Rattle.gn_book.specs.Logs.{Log}
use Rattle.gn_book_tests.proofs.cycles.is_cycle_of_two.Goals as goal

pub load_by_two-is_closed-requires : goal.load_by_two-is_closed-requires
load_by_two-is_closed-requires c = ap (λ (l : Log). l.events) c.in_ok-book.ensures
