use Rattle.std.specs.Prelude.{IsTrue}
use Rattle.gn_imports.proofs.Asked.{all_asked_given, all_asked_closed, all_asked_least}
use Rattle.gn_imports.proofs.laws.questions_lead_to_questions.Goals as goal

pub returns-clause-given : goal.returns-clause-given
returns-clause-given c = λ project. all_asked_given project

pub returns-clause-closed : goal.returns-clause-closed
returns-clause-closed c = λ project is. all_asked_closed project is

pub returns-clause-least : goal.returns-clause-least
returns-clause-least c = λ project test. all_asked_least project (λ q. IsTrue (test q))
