use Rattle.std.proofs.lemmas.Result.{IfOk-weaker}
use Rattle.gn_judging.proofs.LimitLemmas.{large_by, never_large}
use Rattle.gn_judging.proofs.limits.is_large.Goals as goal

pub returns-in-Import : goal.returns-in-Import
returns-in-Import c = IfOk-weaker c.needs_many.result _ _ (λ b h. large_by c.args.book.now c.args.number _ (rw c.in-Import.is at c.key.ensures) b h) c.needs_many.ensures

pub returns-in-Read : goal.returns-in-Read
returns-in-Read c = never_large c.args.book.now c.args.number _ (rw c.in-Read.is at c.key.ensures) (λ h. h)

pub returns-in-Setup : goal.returns-in-Setup
returns-in-Setup c = never_large c.args.book.now c.args.number _ (rw c.in-Setup.is at c.key.ensures) (λ h. h)

pub returns-in-Load : goal.returns-in-Load
returns-in-Load c = never_large c.args.book.now c.args.number _ (rw c.in-Load.is at c.key.ensures) (λ h. h)

pub returns-in-Resolve : goal.returns-in-Resolve
returns-in-Resolve c = never_large c.args.book.now c.args.number _ (rw c.in-Resolve.is at c.key.ensures) (λ h. h)
