use Rattle.gn_book_tests.proofs.Claims.{other_has_none, taken_some}
use Rattle.gn_book_tests.proofs.cycles.load_by_two.Goals as goal

pub enter-requires : goal.enter-requires
enter-requires c = other_has_none c.claim_first.new.book c.in_ok-first.first c.in_ok-first.ensures

pub need_other-is_closed-requires-clause-first : goal.need_other-is_closed-requires-clause-first
need_other-is_closed-requires-clause-first c = ((taken_some c.claim_first.new.book c.enter.new.book _ c.in-Some.entry c.in-Some.is c.in_ok-enter.ensures).0 c.in_ok-first.first.number c.in_ok-first.first.seat c.in_ok-first.ensures.has).0

pub need_other-is_closed-requires-clause-entry : goal.need_other-is_closed-requires-clause-entry
need_other-is_closed-requires-clause-entry c = (taken_some c.claim_first.new.book c.enter.new.book _ c.in-Some.entry c.in-Some.is c.in_ok-enter.ensures).1.has
