use Rattle.gn_functions.proofs.KindsOfCalls.{calls_are, kinds_called, kinds_are, targets_are}
use Rattle.gn_functions.proofs.laws.items_are_called_by_their_kinds.Goals as goal

pub returns-clause-calls : goal.returns-clause-calls
returns-clause-calls c = calls_are c.kinds_are_found_by_their_names.ensures.named

pub returns-clause-called : goal.returns-clause-called
returns-clause-called c = kinds_called

pub returns-clause-kinds : goal.returns-clause-kinds
returns-clause-kinds c = kinds_are c.kinds_are_found_by_their_names.ensures.named

pub returns-clause-targets : goal.returns-clause-targets
returns-clause-targets c = targets_are
