use Rattle.std.proofs.Common.{IfOk, IfSome, Some, sym, subst}
use Rattle.gn_runs.specs.Runs.{Answers}
use Rattle.gn_perform.specs.Kept.{GoesOnAt}
use Rattle.gn_perform.specs.Evaluating.{IsRan}
use Rattle.gn_perform.proofs.evaluating.run_key.Goals as goal

pub run_over-requires-clause-rest : goal.run_over-requires-clause-rest
run_over-requires-clause-rest g c = subst (λ (a : Answers). IfSome c.args.rest (GoesOnAt c.args.base.now c.args.key (Some a))) (sym c.in_ok-told.ensures) c.requires.rest

pub returns : goal.returns
returns g c = subst (λ (a : Answers). IfOk c.run_over.result (IsRan c.args.base.now c.args.key a)) c.in_ok-told.ensures c.run_over.ensures
