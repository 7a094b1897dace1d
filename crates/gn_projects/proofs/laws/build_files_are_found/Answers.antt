use Rattle.gn_projects.proofs.Whole.{files_are_found, lacking_files_are_wrong}
use Rattle.gn_projects.proofs.laws.build_files_are_found.Goals as goal

pub returns-clause-found : goal.returns-clause-found
returns-clause-found c = files_are_found

pub returns-clause-lacking : goal.returns-clause-lacking
returns-clause-lacking c = lacking_files_are_wrong
