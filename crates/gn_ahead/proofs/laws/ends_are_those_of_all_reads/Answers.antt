use Rattle.gn_ahead.proofs.EndsAhead.{seat_ends_asked, seat_fails_on, seat_ends_large}
use Rattle.gn_ahead.proofs.laws.ends_are_those_of_all_reads.Goals as goal

pub returns-clause-asked : goal.returns-clause-asked
returns-clause-asked c = seat_ends_asked

pub returns-clause-fails : goal.returns-clause-fails
returns-clause-fails c = seat_fails_on

pub returns-clause-large : goal.returns-clause-large
returns-clause-large c = seat_ends_large
