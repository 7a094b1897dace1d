use Rattle.std.proofs.Common.{inl, inr, ap, true≢false, sym, ◌∙◌}
use Rattle.std.proofs.lemmas.Result.{IfOk-weaker}
use Rattle.gn_judging.specs.declared.judging.Judged.TheVariants.{Wrong}
use Rattle.gn_judging.proofs.judging.judge.Goals as goal

pub judge_small-requires-clause-few : goal.judge_small-requires-clause-few
judge_small-requires-clause-few c = λ large. absurd (true≢false (sym (c.in_ok-has_large_import.ensures.1 large) ∙ c.if-branch.false))

pub returns-then-branch : goal.returns-then-branch
returns-then-branch c = inl (c.in_ok-has_large_import.ensures.0 c.if-branch.true, ap Wrong c.too_large.ensures)

pub returns-else-branch : goal.returns-else-branch
returns-else-branch c = IfOk-weaker c.judge_small.result _ _ (λ judged is. inr ((λ large. absurd (true≢false (sym (c.in_ok-has_large_import.ensures.1 large) ∙ c.if-branch.false))), is)) c.judge_small.ensures
