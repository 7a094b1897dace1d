use Rattle.std.proofs.Common.{◌∙◌}
use Rattle.std.proofs.lemmas.Result.{IfOk-weaker}
use Rattle.gn_judging.proofs.JudgingLemmas.{default_none, default_some}
use Rattle.gn_judging.proofs.judging.default_toolchain.Goals as goal

pub returns-in-Some : goal.returns-in-Some
returns-in-Some c = IfOk-weaker c.default_by.result _ _ (λ d is. is ∙ default_some c.args.book.now _ _ c.new.ensures (rw c.in-Some.is at c.find_unit.ensures)) c.default_by.ensures

pub returns : goal.returns
returns c = c.new-in-None.ensures ∙ default_none c.args.book.now _ c.new.ensures (rw c.in-None.is at c.find_unit.ensures)
