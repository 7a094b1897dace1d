use Rattle.gn_functions.proofs.RowsOfCalls.{refused_alike, taken_alike, paths_refused_alike, paths_taken_alike}
use Rattle.gn_functions.proofs.laws.rows_are_of_their_calls.Goals as goal

pub returns-clause-refused : goal.returns-clause-refused
returns-clause-refused c = refused_alike

pub returns-clause-taken : goal.returns-clause-taken
returns-clause-taken c = taken_alike

pub returns-clause-paths_refused : goal.returns-clause-paths_refused
returns-clause-paths_refused c = paths_refused_alike

pub returns-clause-paths_taken : goal.returns-clause-paths_taken
returns-clause-paths_taken c = paths_taken_alike
