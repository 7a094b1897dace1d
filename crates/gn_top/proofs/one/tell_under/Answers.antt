use Rattle.std.proofs.Common.{arith}
use Rattle.gn_top.proofs.RunLemmas.{told_behind, not_put}
use Rattle.gn_top.proofs.one.tell_under.Goals as goal

pub returns-in-Ok : goal.returns-in-Ok
returns-in-Ok g c = told_behind _ _ _ _ _ _ _ c.in-Ok.ensures.events c.in-Ok.ensures.faults c.say_under.ensures

pub returns-in-Err-Failed : goal.returns-in-Err-Failed
returns-in-Err-Failed g c =
    not_put _ _ _ _ _ _ (omega arith) (omega arith) c.in-Err-Failed.ensures.events (λ _. rw c.in-Err-Failed.field-0-is at c.in-Err-Failed.ensures.faults)

pub returns-in-Err-Memory : goal.returns-in-Err-Memory
returns-in-Err-Memory g c = not_put _ _ _ _ _ _ (omega arith) (omega arith) c.in-Err-Memory.ensures.events (λ five. absurd (omega (arith, five)))
