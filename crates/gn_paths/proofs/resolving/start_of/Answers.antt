use Rattle.gn_paths.proofs.NormalLemmas.{IsNormal-root}
use Rattle.gn_paths.proofs.resolving.start_of.Goals as goal

pub returns-then-is_source-clause-normal : goal.returns-then-is_source-clause-normal
returns-then-is_source-clause-normal c = IsNormal-root
