use Rattle.gn_answers.specs.Answers.{meaning_of}
use Rattle.gn_load.proofs.TakeLemmas.{filed_as, claimed_by}
use Rattle.gn_load.proofs.driver.file.Goals as goal

pub file-requires-clause-number : goal.file-requires-clause-number
file-requires-clause-number c = c.requires.held.number

pub file-requires-clause-claimed : goal.file-requires-clause-claimed
file-requires-clause-claimed c = claimed_by c.args.book.now c.args.claim c.requires

pub returns-clause-ok : goal.returns-clause-ok
returns-clause-ok c = filed_as c.args.book.now c.file.new.self c.args.claim (meaning_of c.args.answer) c.requires (rw c.in_ok-shared.ensures at c.in-Ok.ensures.ok)
