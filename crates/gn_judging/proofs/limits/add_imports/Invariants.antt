use Rattle.std.proofs.Common.{◌≡◌, map, take}
use Rattle.gn_items.specs.Questions.{question_of}
use Rattle.gn_judging.specs.Limits.{with_imports}
use Rattle.gn_judging.proofs.limits.add_imports.Given as goal

abbrev pub invariant-loop-question : goal.invariant-loop-question
invariant-loop-question l = l.paths.keys ≡ with_imports l.initial.paths.keys (take l.question-index (map question_of l.asked))
