use Rattle.gn_book_tests.proofs.Claims.{still_apart}
use Rattle.gn_book_tests.proofs.cycles.wait_and_close.Goals as goal

pub close-requires-clause-first : goal.close-requires-clause-first
close-requires-clause-first c = (c.in_ok-is_waiting.ensures c.args.claims.0.number c.args.claims.0.seat c.requires.first).0

pub close-requires-clause-second : goal.close-requires-clause-second
close-requires-clause-second c = (c.in_ok-is_waiting.ensures c.args.claims.1.number c.args.claims.1.seat c.requires.second).0

pub close-requires-clause-apart : goal.close-requires-clause-apart
close-requires-clause-apart c = still_apart c.args.book.now c.waits_for.new.book c.args.claims.0.number c.args.claims.1.number c.args.claims.0.seat c.args.claims.1.seat c.in_ok-is_waiting.ensures c.requires.first c.requires.second c.requires.apart
