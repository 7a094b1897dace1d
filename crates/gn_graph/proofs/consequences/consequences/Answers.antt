use Rattle.std.proofs.Common.{◌≡◌, ℕ, List, get_or, sym, ap, subst, ◌∙◌, arith, true}
use Rattle.std.proofs.lemmas.List.{length-map}
use Rattle.std.proofs.lemmas.Option.{get_or_from_slice_get}
use Rattle.gn_closure.specs.Closure.{Horn}
use Rattle.gn_graph.specs.Clauses.{has, horn_of, horns, waits_at}
use Rattle.gn_graph.specs.Plans.{FiredAll}
use Rattle.gn_graph.proofs.PlanSteps.{plan_begun, plan_step, plan_done, few_new}
use Rattle.gn_graph.proofs.States.{more_on}
use Rattle.gn_graph.proofs.consequences.consequences.Goals as goal

pub loop-k-init : goal.loop-k-init
loop-k-init c = record {
  plan = plan_begun (horns c.args.clauses.now) c.args.held.now c.args.start c.requires.closed c.requires.within;
  begun = omega arith;
}

pub loop-k-preserved : goal.loop-k-preserved
loop-k-preserved c =
    let rs : List (Horn ℕ) = horns c.args.clauses.now in
    let u : ℕ → List ℕ = waits_at c.args.uses.now in
    let old : List ℕ = c.loop-k.held in
    let new : List ℕ = c.fire_users.new.held in
    let e : c.users.result.now ≡ u (get_or old c.loop-k.k 0) = c.users.ensures ∙ ap u (sym (get_or_from_slice_get old c.loop-k.k c.at.result 0 c.at.ensures)) in
    let P : List ℕ → Type 0 = λ z. FiredAll rs (λ i. has z i ≡ true) old new in
    record {
      plan = plan_step rs u c.args.held.now old new c.args.start c.loop-k.k c.requires.used c.loop-k.invariant.begun c.requires.within c.len.ensures.once c.loop-k.invariant.plan (omega arith)
          (subst P e c.in_ok-fire_users.ensures.ok);
      begun = omega (arith, c.loop-k.invariant.begun);
    }

pub loop-k-smaller : goal.loop-k-smaller
loop-k-smaller c =
    let few = few_new (horns c.args.clauses.now) c.args.held.now c.loop-k.held c.loop-k.k c.len.ensures.once c.loop-k.invariant.plan in
    omega (arith, few, length-map c.args.clauses.now horn_of)

pub returns-in_err-fire_users-clause-more : goal.returns-in_err-fire_users-clause-more
returns-in_err-fire_users-clause-more c =
    more_on c.args.held.now c.loop-k.held c.fire_users.new.held (c.loop-k.invariant.plan.rest, c.loop-k.invariant.plan.grows) c.fire_users.ensures.more

pub returns-clause-more : goal.returns-clause-more
returns-clause-more c = (c.loop-k.invariant.plan.rest, c.loop-k.invariant.plan.grows)

pub returns-clause-ok : goal.returns-clause-ok
returns-clause-ok c = plan_done (horns c.args.clauses.now) c.args.held.now c.loop-k.held c.loop-k.k c.loop-k.invariant.plan (omega arith) c.len.ensures.once
