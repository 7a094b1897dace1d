use Rattle.gn_builds.proofs.Needed.{closed_are_all, listed_are_many}
use Rattle.gn_builds.proofs.laws.closed_imports_are_all.Goals as goal

pub returns-clause-all : goal.returns-clause-all
returns-clause-all c = closed_are_all

pub returns-clause-many : goal.returns-clause-many
returns-clause-many c = listed_are_many
