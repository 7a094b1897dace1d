use Rattle.gn_ahead.proofs.Rebased.{seat_reads_on, reads_ahead_go_on}
use Rattle.gn_ahead.proofs.laws.what_was_read_is_known.Goals as goal

pub returns-clause-seat : goal.returns-clause-seat
returns-clause-seat c = seat_reads_on

pub returns-clause-ahead : goal.returns-clause-ahead
returns-clause-ahead c = reads_ahead_go_on
