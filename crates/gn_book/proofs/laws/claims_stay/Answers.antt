use Rattle.gn_book.proofs.Claims.{are_given, stay}
use Rattle.gn_book.proofs.laws.claims_stay.Goals as goal

pub returns-clause-given : goal.returns-clause-given
returns-clause-given start = are_given

pub returns-clause-stay : goal.returns-clause-stay
returns-clause-stay start = stay
