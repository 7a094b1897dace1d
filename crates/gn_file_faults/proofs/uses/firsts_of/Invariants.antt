use Rattle.std.proofs.Common.{◌≡◌, ℕ, List, None, drop, map}
use Rattle.gn_file_faults.specs.Uses.{meant, first_in, first_from}
use Rattle.gn_file_faults.proofs.uses.firsts_of.Given as goal

abbrev pub invariant-loop-one : goal.invariant-loop-one
invariant-loop-one l =
    (name : List ℕ) → first_from name (first_in l.firsts name) (map meant (drop l.one-index l.uses)) ≡ first_from name None (map meant l.uses)
