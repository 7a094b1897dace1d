use Rattle.std.proofs.Common.{sym}
use Rattle.gn_book.specs.Keys.{key_of}
use Rattle.gn_book.specs.Logs.{state_of}
use Rattle.gn_answers.specs.Answers.{meaning_of}
use Rattle.gn_prepared.proofs.Copying.{filed_there}
use Rattle.gn_prepared.proofs.copies.Copies.put.Goals as goal

pub returns-in-Some : goal.returns-in-Some
returns-in-Some c part =
    c.keep.ensures (state_of c.args.book.now).filed
    (filed_there c.args.book.now.keys c.args.number (key_of c.key-key.result.now) (state_of c.args.book.now).filed (meaning_of c.in-Some.answer.now) c.key-key.ensures (sym c.in-Some.ensures)) part
