use Rattle.std.proofs.Common.{◌≡◌}
use Rattle.gn_turn.proofs.turn.Turn.wait_for_turn.Given as goal

-- the seat stays as it is while its ticket isn't served
abbrev pub invariant-loop : goal.invariant-loop
invariant-loop g l = (l.token.table_id ≡ l.fn.token.table_id) × (l.token.me ≡ l.fn.token.me)
