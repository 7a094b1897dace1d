use Rattle.std.proofs.Common.{◌≡◌, map}
use Rattle.std.specs.Map.Iter.{deref_pair}
use Rattle.gn_files.specs.Files.{pool_out}
use Rattle.gn_files.proofs.root.pools_out.Given as goal

abbrev pub invariant-loop-pool : goal.invariant-loop-pool
invariant-loop-pool l = l.pools.items ≡ map (pool_out l.project.surroundings.default.now l.project.items.now) (map (λ e. e.1) (map deref_pair l.yielded))
