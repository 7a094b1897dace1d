use Rattle.gn_environment.proofs.ShownNames.{reported_is_unread, reported_is_first, none_is_unread}
use Rattle.gn_environment.proofs.name_laws.first_unread_name_is_reported.Goals as goal

pub returns-clause-unread : goal.returns-clause-unread
returns-clause-unread c = reported_is_unread

pub returns-clause-first : goal.returns-clause-first
returns-clause-first c = reported_is_first

pub returns-clause-all : goal.returns-clause-all
returns-clause-all c = none_is_unread
