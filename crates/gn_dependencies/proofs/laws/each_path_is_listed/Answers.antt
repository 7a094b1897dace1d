use Rattle.gn_dependencies.proofs.AllPaths.{each_path, only_paths}
use Rattle.gn_dependencies.proofs.laws.each_path_is_listed.Goals as goal

pub returns : goal.returns
returns c = λ next n t p. (only_paths next n t p, λ h. each_path next n t p h.0 h.1)
