use Rattle.gn_paths.proofs.NormalLemmas.{IsNormal-root}
use Rattle.gn_paths.proofs.path.Path.root.Goals as goal

pub invariant_of-result : goal.invariant_of-result
invariant_of-result c = rw c.in_ok-from_bytes.ensures IsNormal-root
