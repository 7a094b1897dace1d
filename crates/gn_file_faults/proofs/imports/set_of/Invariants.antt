use Rattle.std.proofs.Common.{◌≡◌, ◌||◌, ℕ, List, drop, map}
use Rattle.gn_file_faults.specs.Imports.{has, is_among}
use Rattle.gn_file_faults.proofs.imports.set_of.Given as goal

abbrev pub invariant-loop-path : goal.invariant-loop-path
invariant-loop-path l =
    (path : List ℕ) → (has l.set path || is_among (map (λ p. p.now) (drop l.path-index l.paths)) path) ≡ is_among (map (λ p. p.now) l.paths) path
