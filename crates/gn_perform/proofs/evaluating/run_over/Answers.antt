use Rattle.std.proofs.lemmas.Result.{IfOk-weaker}
use Rattle.gn_perform.proofs.evaluating.run_over.Goals as goal

pub go_over-ran-requires-clause-shallow : goal.go_over-ran-requires-clause-shallow
go_over-ran-requires-clause-shallow g c =
    let rest = rw c.in-Some-Paused.is at c.requires.rest in
    let kept = rw c.in-Some-Paused.field-0-is at rest in
    kept.0.shallow

pub returns-in-Some-Paused : goal.returns-in-Some-Paused
returns-in-Some-Paused g c =
    let rest = rw c.in-Some-Paused.is at c.requires.rest in
    let kept = rw c.in-Some-Paused.field-0-is at rest in
    IfOk-weaker c.go_over-ran.result _ _ (λ ran is. is c.args.base.now kept) c.go_over-ran.ensures

pub again_over-ran-requires-clause-read : goal.again_over-ran-requires-clause-read
again_over-ran-requires-clause-read g c =
    let rest = rw c.in-Some-Tree.is at c.requires.rest in
    rw c.in-Some-Tree.field-0-is at rest
