use Rattle.gn_environment.proofs.ShownNames.{shown_conflicts, shown_is_least, none_conflicts}
use Rattle.gn_environment.proofs.name_laws.least_conflict_is_shown.Goals as goal

pub returns-clause-conflicts : goal.returns-clause-conflicts
returns-clause-conflicts c = shown_conflicts

pub returns-clause-least : goal.returns-clause-least
returns-clause-least c = λ value env name other s h m. shown_is_least value env s name other h m

pub returns-clause-all : goal.returns-clause-all
returns-clause-all c = λ value env after other h m. none_conflicts value env after other h m
