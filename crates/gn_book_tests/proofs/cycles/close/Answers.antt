use Rattle.gn_book_tests.proofs.Claims.{still_apart}
use Rattle.gn_book_tests.proofs.cycles.close.Goals as goal

pub settle-requires : goal.settle-requires
settle-requires c = (c.in_ok-is_closed.ensures c.args.claims.1.number c.args.claims.1.seat c.requires.second).0

pub settle-requires-2 : goal.settle-requires-2
settle-requires-2 c =
    c.in_ok-settle.ensures c.args.claims.0.number c.args.claims.0.seat (c.in_ok-is_closed.ensures c.args.claims.0.number c.args.claims.0.seat c.requires.first).0
    (still_apart c.args.book.now c.closes.new.book c.args.claims.0.number c.args.claims.1.number c.args.claims.0.seat c.args.claims.1.seat c.in_ok-is_closed.ensures c.requires.first c.requires.second c.requires.apart)
