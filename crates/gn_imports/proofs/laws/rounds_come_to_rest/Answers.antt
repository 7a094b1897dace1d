use Rattle.gn_imports.proofs.Rounds.{rounds_grow, round_within, values_rest}
use Rattle.gn_imports.proofs.Final.{none_needs}
use Rattle.gn_imports.proofs.laws.rounds_come_to_rest.Goals as goal

pub returns-clause-grow : goal.returns-clause-grow
returns-clause-grow c = λ project is n path y h. (rounds_grow project is n path y h, round_within project is n path y h)

pub returns-clause-rest : goal.returns-clause-rest
returns-clause-rest c = values_rest

pub returns-clause-unknown : goal.returns-clause-unknown
returns-clause-unknown c = none_needs
