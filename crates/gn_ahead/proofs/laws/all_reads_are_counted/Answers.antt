use Rattle.gn_ahead.proofs.EndsAhead.{few_are_small, many_are_too_large}
use Rattle.gn_ahead.proofs.laws.all_reads_are_counted.Goals as goal

pub returns-clause-small : goal.returns-clause-small
returns-clause-small c = few_are_small

pub returns-clause-large : goal.returns-clause-large
returns-clause-large c = many_are_too_large
