use Rattle.gn_environment.proofs.DeclaredNames.{first_declares, nothing_declared, further_leaves}
use Rattle.gn_environment.proofs.declaring_laws.first_assignments_declare.Goals as goal

pub returns-clause-first : goal.returns-clause-first
returns-clause-first c = first_declares

pub returns-clause-further : goal.returns-clause-further
returns-clause-further c = further_leaves

pub returns-clause-elsewhere : goal.returns-clause-elsewhere
returns-clause-elsewhere c = nothing_declared
