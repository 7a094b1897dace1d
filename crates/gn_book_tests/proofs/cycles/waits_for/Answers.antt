use Rattle.gn_book_tests.proofs.Claims.{waiting_keeps}
use Rattle.gn_book_tests.proofs.cycles.waits_for.Goals as goal

pub returns : goal.returns
returns c = waiting_keeps c.args.book.now c.wait.new.book c.in_ok-blocked.blocked c.in_ok-blocked.ensures
