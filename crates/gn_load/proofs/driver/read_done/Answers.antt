use Rattle.gn_answers.specs.Answers.{meaning_of}
use Rattle.gn_load.proofs.DoneLemmas.{reads_as, reads_lost}
use Rattle.gn_load.proofs.driver.read_done.Goals as goal

pub returns-in_err-file : goal.returns-in_err-file
returns-in_err-file c = reads_lost c.args.driver.now _ c.args.claim (meaning_of c.args.answer) c.from_residual.result c.from_residual.ensures.1

pub returns : goal.returns
returns c =
    reads_as c.args.driver.now c.count.new.driver c.args.claim (meaning_of c.args.answer) c.file.new.book c.in_ok-file.ensures.ok c.count.result c.count.ensures.book c.count.ensures.waiting c.count.ensures.begins c.count.ensures.reads c.count.ensures.few c.count.ensures.many
