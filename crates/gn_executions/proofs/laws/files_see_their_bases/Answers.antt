use Rattle.std.proofs.Common.{refl}
use Rattle.gn_environment.specs.Environment.{new_environment, value_of}
use Rattle.gn_environment.specs.Chains.{chain_variable}
use Rattle.gn_executions.proofs.laws.files_see_their_bases.Goals as goal

pub returns-clause-imports : goal.returns-clause-imports
unfolding new_environment value_of chain_variable
returns-clause-imports c = λ base when toolchain path name. refl

pub returns-clause-loads : goal.returns-clause-loads
unfolding new_environment value_of chain_variable
returns-clause-loads c = λ base directory toolchain path name. refl
