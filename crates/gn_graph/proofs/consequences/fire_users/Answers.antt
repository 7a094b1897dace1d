use Rattle.std.proofs.Common.{◌≡◌, ◌+◌, ℕ, List, true, inl, inr, nat_eq, take, get_or, sym, ◌∙◌, subst, eqb-true, arith}
use Rattle.std.proofs.lemmas.List.{take_all}
use Rattle.gn_graph.specs.Clauses.{has, horns}
use Rattle.gn_graph.specs.Plans.{FiredAll}
use Rattle.gn_graph.proofs.Has.{either, has-take_more}
use Rattle.gn_graph.proofs.PlanSteps.{none_fired, one_fired}
use Rattle.gn_graph.proofs.consequences.fire_users.Goals as goal

pub loop-i-init : goal.loop-i-init
loop-i-init c = none_fired (horns c.args.clauses.now) _ c.args.held.now (λ i m. absurd (cc m))

pub loop-i-preserved : goal.loop-i-preserved
loop-i-preserved c =
    let list = c.args.list.now in
    let k = c.loop-i.i-index in
    one_fired (horns c.args.clauses.now) (λ i. has (take k list) i ≡ true) (λ i. has (take (k + 1) list) i ≡ true)
    c.args.held.now c.loop-i.held c.fire_at.new.held (get_or list k 0)
    (λ i m. elim (either (has (take k list) i) (nat_eq i (get_or list k 0)) (sym (has-take_more list k i (omega arith)) ∙ m)) [ inl a ↦ inl a | inr b ↦ inr (eqb-true i (get_or list k 0) b) ])
    c.loop-i.invariant c.in_ok-fire_at.ensures.ok

pub returns-in_err-fire_at-clause-more : goal.returns-in_err-fire_at-clause-more
returns-in_err-fire_at-clause-more c = (c.loop-i.invariant.rest, c.in_err-fire_at.ensures.err ∙ c.loop-i.invariant.grows)

pub returns-clause-more : goal.returns-clause-more
returns-clause-more c = (c.loop-i.invariant.rest, c.loop-i.invariant.grows)

pub returns-clause-ok : goal.returns-clause-ok
returns-clause-ok c =
    let P : List ℕ → Type 0 = λ z. FiredAll (horns c.args.clauses.now) (λ i. has z i ≡ true) c.args.held.now c.loop-i.held in
    subst P (take_all c.loop-i.i-index c.args.list.now (omega arith)) c.loop-i.invariant
