use Rattle.std.proofs.Common.{rules, ap}
use Rattle.gn_turn.proofs.SeatSteps.{split_allowed}
use Rattle.gn_turn.proofs.opening.split_seats.Goals as goal

pub split_seat-token-requires : goal.split_seat-token-requires
split_seat-token-requires g c = let is = c.loop-number.invariant.1 in (
  search rules,
  search rules,
  split_allowed g.B.Kept.basis g.B.Kept.history g.B.Kept.number _ _ _ c.loop-number.number _ (ap (λ m. m.0.basis) is) (ap (λ m. m.0.role) is) (search rules),
)
