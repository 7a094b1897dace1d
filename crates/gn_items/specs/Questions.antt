-- What an evaluation asks, as runs see it.
use Rattle.gn_runs.specs.Runs.{Question, content_of, import_of}
use Rattle.gn_items.specs.declared.question.Question.{Question as Asked}
use Rattle.gn_items.specs.declared.question.Question.TheVariants.{Content, Import}

-- a question of the program as one of a run
abbrev pub question_of : Asked → Question
question_of (Content path) = content_of path
question_of (Import path) = import_of path
