use Rattle.gn_projects.proofs.Layered.{whole_builds_are_layered as proved}
use Rattle.gn_projects.proofs.laws.whole_builds_are_layered.Goals as goal

pub returns : goal.returns
returns c = proved
