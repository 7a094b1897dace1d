use Rattle.std.proofs.Common.{List, ℕ, subst}
use Rattle.gn_basics.proofs.Results.{if_ok}
use Rattle.gn_graph.specs.declared.clause.Clause.{Clause}
use Rattle.gn_graph.specs.Clauses.{horns}
use Rattle.gn_graph.specs.Plans.{IsPlan}
use Rattle.gn_graph.specs.Kept.{state_of}
use Rattle.gn_graph.specs.States.{State}
use Rattle.gn_graph.proofs.States.{sound_plan, took_plan}
use Rattle.gn_graph.proofs.closure.follow_waiting.Goals as goal

pub returns-clause-took : goal.returns-clause-took
returns-clause-took c =
    let a : State = state_of c.args.parts.now in
    let new : List ℕ = c.consequences.new.held in
    if_ok c.consequences.result (λ _ p.
    let plan : IsPlan a.rules a.found new = subst (λ (z : List Clause). IsPlan (horns z) a.found new) c.deref.ensures.value p in
    (sound_plan a c.args.start c.requires.sound new plan, took_plan a c.args.start c.requires.sound new plan)) c.consequences.ensures.ok
