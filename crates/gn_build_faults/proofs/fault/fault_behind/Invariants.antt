use Rattle.std.proofs.Common.{◌≡◌, drop, map}
use Rattle.gn_toolchains.specs.Frames.{known_of}
use Rattle.gn_build_faults.specs.Outputs.{lent_texts}
use Rattle.gn_build_faults.specs.Examined.{examined_state, fault_of_examined}
use Rattle.gn_build_faults.proofs.fault.fault_behind.Given as goal

abbrev pub invariant-loop-found : goal.invariant-loop-found
invariant-loop-found l =
    fault_of_examined l.default l.items (known_of l.frames) (lent_texts l.seen.keys) (map examined_state (drop l.found-index l.examined))
    ≡ fault_of_examined l.default l.items (known_of l.frames) (lent_texts l.initial.seen.keys) (map examined_state l.examined)
