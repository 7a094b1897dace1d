use Rattle.gn_environment.proofs.DeclaredNames.{declared_is_not_read}
use Rattle.gn_environment.proofs.KeptScopes.{read_is_kept, declared_is_not_kept, defaults_are_kept}
use Rattle.gn_environment.proofs.name_laws.definitions_keep_what_reads_find.Goals as goal

pub returns-clause-variables : goal.returns-clause-variables
returns-clause-variables c = read_is_kept

pub returns-clause-declared : goal.returns-clause-declared
returns-clause-declared c = λ name env h. (declared_is_not_read name env h, declared_is_not_kept name env h)

pub returns-clause-defaults : goal.returns-clause-defaults
returns-clause-defaults c = defaults_are_kept
