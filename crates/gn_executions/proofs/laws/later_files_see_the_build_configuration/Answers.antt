use Rattle.std.proofs.Common.{refl}
use Rattle.gn_executions.proofs.laws.later_files_see_the_build_configuration.Goals as goal

pub returns-clause-early : goal.returns-clause-early
returns-clause-early c = λ context host configuration secondary directory name. refl

pub returns-clause-later : goal.returns-clause-later
returns-clause-later c = λ base context left directory name. refl
