use Rattle.gn_prepared.proofs.Included.{included_later, bases_stand, keeps_no_units}
use Rattle.gn_prepared.proofs.with_content.contents_are_included.Goals as goal

pub returns-clause-later : goal.returns-clause-later
returns-clause-later c = included_later

pub returns-clause-base : goal.returns-clause-base
returns-clause-base c = bases_stand

pub returns-clause-content : goal.returns-clause-content
returns-clause-content c = keeps_no_units
