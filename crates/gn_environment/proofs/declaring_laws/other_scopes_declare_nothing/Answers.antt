use Rattle.std.proofs.Common.{refl}
use Rattle.gn_environment.proofs.OtherScopes.{assigned_plain, given_plain, read_plain, shown_plain}
use Rattle.gn_environment.proofs.declaring_laws.other_scopes_declare_nothing.Goals as goal

pub returns-clause-begins : goal.returns-clause-begins
returns-clause-begins c = λ checked. record { declares = refl; variables = tt }

pub returns-clause-assigned : goal.returns-clause-assigned
returns-clause-assigned c = assigned_plain

pub returns-clause-given : goal.returns-clause-given
returns-clause-given c = given_plain

pub returns-clause-read : goal.returns-clause-read
returns-clause-read c = read_plain

pub returns-clause-shown : goal.returns-clause-shown
returns-clause-shown c = shown_plain
