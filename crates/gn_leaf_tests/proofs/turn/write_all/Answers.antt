use Rattle.std.proofs.Common.{◌≤◌, List, length, rules, arith}
use Rattle.gn_turn.specs.declared.kept.Kept.{Ghosts}
use Rattle.gn_turn.specs.declared.seat.Seat.{Seat}
use Rattle.gn_turn.specs.declared.turn.Turn.{Turn}
use Rattle.gn_turn.specs.Turns.{AreInOrder, HasEachNumber, seat_count}
use Rattle.gn_leaf_tests.proofs.turn.write_all.Goals as goal

-- seats in the order of their numbers, as many as there are, have each number
each_has_its_number : {B E G : Type 0} {k : Ghosts B E G} (t : Turn B E G) (seats : List (Seat B E G k)) → seat_count t ≤ length seats → AreInOrder seats → HasEachNumber t seats
each_has_its_number t seats many order number below = (number, omega (arith, many, below), λ d. order number d (omega (arith, many, below)))

pub finish-requires-clause-all : goal.finish-requires-clause-all
finish-requires-clause-all g c = each_has_its_number c.in_ok-turn.turn c.write_in_threads.new.seats.items (search rules) c.write_in_threads.ensures.order
