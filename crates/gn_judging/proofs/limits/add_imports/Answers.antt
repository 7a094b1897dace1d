use Rattle.std.proofs.Common.{List, ℕ, ◌∙◌, ap, sym, map, take, arith}
use Rattle.std.proofs.lemmas.List.{take_all, length-map}
use Rattle.gn_basics.proofs.Lists.{took_more}
use Rattle.gn_items.specs.Questions.{question_of}
use Rattle.gn_runs.specs.Runs.{Question}
use Rattle.gn_judging.specs.Limits.{with_import, with_imports}
use Rattle.gn_judging.proofs.LimitLemmas.{imports_more}
use Rattle.gn_judging.proofs.limits.add_imports.Goals as goal

pub loop-question-preserved : goal.loop-question-preserved
loop-question-preserved c =
    let more = took_more question_of c.args.asked.now c.loop-question.question-index c.question-item.result c.loop-question-test.true c.question-item.is in
    c.in_ok-add_import.ensures
    ∙ ap (λ (ps : List (List ℕ)). with_import ps (question_of c.question-item.result)) c.loop-question.invariant
    ∙ sym (imports_more c.args.paths.now.keys (take c.loop-question.question-index (map question_of c.args.asked.now)) (question_of c.question-item.result))
    ∙ ap (λ (qs : List Question). with_imports c.args.paths.now.keys qs) (sym more)

pub returns : goal.returns
returns c =
    c.loop-question.invariant
    ∙ ap (λ (qs : List Question). with_imports c.args.paths.now.keys qs) (take_all c.loop-question.question-index (map question_of c.args.asked.now) (omega (arith, length-map c.args.asked.now question_of)))
