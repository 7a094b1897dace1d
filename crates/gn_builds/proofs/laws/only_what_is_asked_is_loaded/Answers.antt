use Rattle.gn_builds.proofs.Executions.{reached_are_counted}
use Rattle.gn_builds.proofs.Asked.{all_are_asked, begun_are_reached, too_many}
use Rattle.gn_builds.proofs.laws.only_what_is_asked_is_loaded.Goals as goal

pub returns-clause-reads : goal.returns-clause-reads
returns-clause-reads c = all_are_asked

pub returns-clause-begun : goal.returns-clause-begun
returns-clause-begun c = begun_are_reached

pub returns-clause-large : goal.returns-clause-large
returns-clause-large c = too_many

pub returns-clause-counted : goal.returns-clause-counted
returns-clause-counted c = reached_are_counted
