use Rattle.gn_book.proofs.NextRules.{by_rules, ready_work, quiet_quiet}
use Rattle.gn_book.proofs.laws.next_is_by_the_rules.Goals as goal

pub returns-clause-says : goal.returns-clause-says
returns-clause-says c = by_rules

pub returns-clause-work : goal.returns-clause-work
returns-clause-work c = ready_work

pub returns-clause-quiet : goal.returns-clause-quiet
returns-clause-quiet c = quiet_quiet
