use Rattle.gn_book.proofs.Runs.{open_at_first, events_extend, asks_no_more}
use Rattle.gn_book.proofs.laws.logs_are_runs.Goals as goal

pub returns-clause-opening : goal.returns-clause-opening
returns-clause-opening c = open_at_first

pub returns-clause-more : goal.returns-clause-more
returns-clause-more c = events_extend

pub returns-clause-asks : goal.returns-clause-asks
returns-clause-asks c = asks_no_more
