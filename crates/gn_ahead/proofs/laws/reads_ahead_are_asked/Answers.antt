use Rattle.gn_ahead.proofs.AskedAhead.{none_read, reads_asked, all_asked}
use Rattle.gn_ahead.proofs.laws.reads_ahead_are_asked.Goals as goal

pub returns-clause-nothing : goal.returns-clause-nothing
returns-clause-nothing c = none_read

pub returns-clause-only : goal.returns-clause-only
returns-clause-only c = reads_asked

pub returns-clause-all : goal.returns-clause-all
returns-clause-all c = all_asked
