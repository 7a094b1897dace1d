use Rattle.std.proofs.Common.{subst}
use Rattle.gn_top.specs.Hosts.{HostTexts}
use Rattle.gn_top.specs.Stages.{loaded}
use Rattle.gn_top.specs.Building.{request_view, IsBuild}
use Rattle.gn_top.proofs.AnswerLemmas.{end_range}
use Rattle.gn_top.proofs.PartReads.{reads_nothing}
use Rattle.gn_top.proofs.answer.read_build.Goals as goal

pub returns-in_err-outer-clause-reads : goal.returns-in_err-outer-clause-reads
returns-in_err-outer-clause-reads g c = reads_nothing _ _

pub returns-in_err-end-clause-reads : goal.returns-in_err-end-clause-reads
returns-in_err-end-clause-reads g c = rw (← c.in_ok-outer.ensures) c.in_err-end.ensures.reads

pub returns-in_err-last_answer-clause-reads : goal.returns-in_err-last_answer-clause-reads
returns-in_err-last_answer-clause-reads g c = rw (← c.in_ok-outer.ensures) c.in_ok-end.ensures.reads

pub returns-clause-meaning : goal.returns-clause-meaning
returns-clause-meaning g c = λ tree told.
    c.in_ok-last_answer.ensures _ (subst (λ (h : HostTexts). IsBuild c.in_ok-end.end (loaded h (request_view c.args.request.now) tree)) c.in_ok-outer.ensures (c.in_ok-end.ensures.meaning tree told))

pub returns-clause-range : goal.returns-clause-range
returns-clause-range g c = end_range _ _ _ _ c.in_ok-last_answer.ensures

pub returns-clause-reads : goal.returns-clause-reads
returns-clause-reads g c = rw (← c.in_ok-outer.ensures) c.in_ok-end.ensures.reads
