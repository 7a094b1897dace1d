use Rattle.gn_substs.proofs.LawLemmas.{position_names_differ, names_differ}
use Rattle.gn_substs.proofs.law.names_of_a_position_differ.Goals as goal

pub returns-clause-position : goal.returns-clause-position
returns-clause-position c = position_names_differ

pub returns-clause-all : goal.returns-clause-all
returns-clause-all c = names_differ
