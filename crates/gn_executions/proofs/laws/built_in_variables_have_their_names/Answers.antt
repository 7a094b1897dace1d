use Rattle.gn_executions.proofs.Variables.{variables_have_their_names, default_output}
use Rattle.gn_executions.proofs.laws.built_in_variables_have_their_names.Goals as goal

pub returns-clause-names : goal.returns-clause-names
returns-clause-names c = variables_have_their_names

pub returns-clause-output : goal.returns-clause-output
returns-clause-output c = default_output
