use Rattle.gn_top.proofs.AnswerLemmas.{built_ends, failed_ends}
use Rattle.gn_top.proofs.answer.end_answer.Goals as goal

pub returns-in-Built : goal.returns-in-Built
returns-in-Built g c = built_ends _ _ _ _ c.in-Built.build c.in-Built.is c.judged_answer.ensures

pub returns-in-Failed : goal.returns-in-Failed
returns-in-Failed g c = failed_ends _ _ _ _ c.in-Failed.failure c.in-Failed.is c.fault_answer.ensures
