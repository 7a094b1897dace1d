use Rattle.std.proofs.Common.{List, sym, ◌∙◌, ap, map, drop, ◌+◌}
use Rattle.gn_items.specs.Questions.{question_of}
use Rattle.gn_runs.specs.Runs.{Question}
use Rattle.gn_book.specs.Logs.{state_of}
use Rattle.gn_projects.specs.Loaded.{first_there}
use Rattle.gn_built.proofs.FileLemmas.{first_ends, first_goes_on, questions_from}
use Rattle.gn_built.proofs.files.first_there.Goals as goal

pub loop-question-preserved : goal.loop-question-preserved
loop-question-preserved c =
    let filed = (state_of c.args.book.now).filed in
    let from = questions_from c.args.asked.now c.loop-question.question-index c.question-item.result c.loop-question-test.true c.question-item.is in
    sym (first_goes_on filed (question_of c.question-item.result) (map question_of (drop (c.loop-question.question-index + 1) c.args.asked.now)) _ c.in_ok-file.ensures (sym c.is_some.ensures ∙ c.if-is_some.false))
    ∙ ap (first_there filed) (sym from)
    ∙ c.loop-question.invariant

pub returns-then-is_some : goal.returns-then-is_some
returns-then-is_some c =
    let filed = (state_of c.args.book.now).filed in
    let from = questions_from c.args.asked.now c.loop-question.question-index c.question-item.result c.loop-question-test.true c.question-item.is in
    first_ends filed (question_of c.question-item.result) (map question_of (drop (c.loop-question.question-index + 1) c.args.asked.now)) _ c.in_ok-file.ensures (sym c.is_some.ensures ∙ c.if-is_some.true)
    ∙ ap (first_there filed) (sym from)
    ∙ c.loop-question.invariant
