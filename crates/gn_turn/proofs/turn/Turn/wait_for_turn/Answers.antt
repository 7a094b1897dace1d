use Rattle.std.proofs.Common.{rules, ap, ◌∙◌}
use Rattle.gn_turn.proofs.TicketSteps.{load_allowed}
use Rattle.gn_turn.proofs.turn.Turn.wait_for_turn.Goals as goal

pub load-serving-requires : goal.load-serving-requires
load-serving-requires g c = (
  search rules,
  search rules,
  load_allowed g.B.Kept.basis g.B.Kept.history g.B.Kept.number _ _ _ _ _
      (ap (λ m. m.0.basis) c.loop.invariant.1 ∙ c.requires.own.1) (ap (λ m. m.0.stage) c.loop.invariant.1 ∙ c.requires.waiting),
)
