use Rattle.gn_turn.specs.Turns.{IsIdle, IsSameSeat}
use Rattle.gn_leaf_tests.proofs.turn.write.Given as goal

abbrev pub invariant-loop-mark : goal.invariant-loop-mark
invariant-loop-mark g l = IsSameSeat l.fn.seat l.seat × IsIdle l.seat
