use Rattle.gn_turn.specs.Turns.{number_of}
use Rattle.gn_turn.proofs.Lists.{nowhere}
use Rattle.gn_turn.proofs.closing.first_place.Goals as goal

pub unreachable-requires : goal.unreachable-requires
unreachable-requires g c = nowhere (λ s. number_of s) 0 c.loop-place.place c.args.seats.now c.loop-place-test.false c.loop-place.invariant c.requires
