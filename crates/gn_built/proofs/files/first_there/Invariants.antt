use Rattle.std.proofs.Common.{◌≡◌, drop, map}
use Rattle.gn_items.specs.Questions.{question_of}
use Rattle.gn_book.specs.Logs.{state_of}
use Rattle.gn_projects.specs.Loaded.{first_there}
use Rattle.gn_built.proofs.files.first_there.Given as goal

abbrev pub invariant-loop-question : goal.invariant-loop-question
invariant-loop-question l = first_there (state_of l.book).filed (map question_of (drop l.question-index l.asked)) ≡ first_there (state_of l.book).filed (map question_of l.asked)
