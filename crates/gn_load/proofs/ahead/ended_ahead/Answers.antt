use Rattle.std.proofs.Common.{inl, inr}
use Rattle.gn_load.proofs.RoundLemmas.{ends_within}
use Rattle.gn_load.proofs.ahead.ended_ahead.Goals as goal

pub returns-then-may_read : goal.returns-then-may_read
returns-then-may_read c = ends_within c.args.driver c.args.total (rw c.if-may_read.true at c.may_read.ensures.few) c.ended.result c.ended.ensures

pub returns-else-may_read : goal.returns-else-may_read
returns-else-may_read c = inr (rw c.if-may_read.false at c.may_read.ensures.many, c.large_end.ensures)
