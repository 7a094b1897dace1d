use Rattle.gn_ahead.proofs.FirstReads.{first_read_is_asked, needed_is_asked}
use Rattle.gn_ahead.proofs.laws.first_reads_are_asked.Goals as goal

pub returns-clause-first : goal.returns-clause-first
returns-clause-first c = first_read_is_asked

pub returns-clause-needed : goal.returns-clause-needed
returns-clause-needed c = needed_is_asked
