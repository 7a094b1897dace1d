use Rattle.gn_executions.proofs.BuildFiles.{build_file_meant}
use Rattle.gn_executions.proofs.laws.build_files_are_meant.Goals as goal

pub returns : goal.returns
returns c = build_file_meant
