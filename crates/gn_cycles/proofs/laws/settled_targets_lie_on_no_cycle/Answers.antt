use Rattle.gn_dependencies.proofs.AllPaths.{no_cycle}
use Rattle.gn_cycles.proofs.laws.settled_targets_lie_on_no_cycle.Goals as goal

pub returns : goal.returns
returns c = λ g labels t s h p i e. let b = s t h in no_cycle g b.0 t b.1 p i e
