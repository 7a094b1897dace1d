use Rattle.std.proofs.Common.{sym, ◌∙◌}
use Rattle.gn_top.specs.Building.{build_view, request_view, wanted_view}
use Rattle.gn_top.proofs.AnswerLemmas.{wrong_said, right_said}
use Rattle.gn_top.proofs.StageLemmas.{judged_wrong, judged_right}
use Rattle.gn_top.proofs.answer.told_answer.Goals as goal

pub faultless_answer-requires-clause-faultless : goal.faultless_answer-requires-clause-faultless
faultless_answer-requires-clause-faultless g c = λ l lives. sym c.requires.fault ∙ c.in-None.is

pub faultless_answer-requires-clause-others : goal.faultless_answer-requires-clause-others
faultless_answer-requires-clause-others g c = λ l lives. c.requires.others c.in-None.is

pub returns-in-Some : goal.returns-in-Some
returns-in-Some g c =
    wrong_said (wanted_view c.args.wanted) (request_view c.args.request.now) (build_view c.args.build.now) c.fault_answer.result _
    (judged_wrong (build_view c.args.build.now) _ (sym c.requires.fault ∙ c.in-Some.is)) c.fault_answer.ensures

pub returns-in-None : goal.returns-in-None
returns-in-None g c =
    right_said (wanted_view c.args.wanted) (request_view c.args.request.now) (build_view c.args.build.now) c.faultless_answer.result
    (judged_right (build_view c.args.build.now) (sym c.requires.fault ∙ c.in-None.is)) c.faultless_answer.ensures
