use Rattle.gn_executions.proofs.AloneFiles.{files_end_alone}
use Rattle.gn_executions.proofs.laws.files_that_stand_alone_end.Goals as goal

pub returns : goal.returns
returns c = files_end_alone
