use Rattle.std.proofs.Common.{◌≤◌, List, length, ap, ◌∙◌, arith}
use Rattle.std.proofs.lemmas.Map.Made.{length-le_from_is_member}
use Rattle.gn_labels.specs.declared.label.Label.{Label}
use Rattle.gn_dependencies.specs.Lists.{added}
use Rattle.gn_dependencies.specs.Shape.{Shape}
use Rattle.gn_dependencies.proofs.Same.{label_equiv}
use Rattle.gn_chains.specs.Walking.{looked_at, meets, goes_through, met}
use Rattle.gn_chains.proofs.WalkState.{walk_start, walk_on, walk_done, met_some}
use Rattle.gn_chains.proofs.walk.add_walked.Goals as goal

pub loop-next-init : goal.loop-next-init
loop-next-init g c =
    let s : Shape = g.G.Graph.shape c.args.graph.now in
    let walk = c.args.walk in
    walk_start (λ d. looked_at walk s d) (λ d. meets walk (s.kind d)) (λ d. goes_through walk (s.kind d)) c.args.target.now c.add_all_met.new.out
    (c.in_ok-add_all_met.ensures ∙ ap (λ (z : List Label). added c.args.out.now (met walk s z)) c.seen_at.ensures
    ∙ ap (λ (z : List Label). added z (met walk s (looked_at walk s c.args.target.now))) c.requires)

pub loop-next-smaller : goal.loop-next-smaller
loop-next-smaller g c =
    let s : Shape = g.G.Graph.shape c.args.graph.now in
    let few : length c.loop-next.out ≤ length (g.G.Graph.all c.args.graph.now)
    = length-le_from_is_member label_equiv c.loop-next.out (g.G.Graph.all c.args.graph.now) c.len.ensures.once
    (λ q h. g.met.G.Graph.listed c.args.graph.now q (met_some c.args.walk s c.args.target.now q (c.loop-next.invariant.sound q h))) in
    omega (arith, few)

pub loop-next-preserved : goal.loop-next-preserved
loop-next-preserved g c =
    let s : Shape = g.G.Graph.shape c.args.graph.now in
    let walk = c.args.walk in
    let out = c.loop-next.out in
    walk_on (λ d. looked_at walk s d) (λ d. meets walk (s.kind d)) (λ d. goes_through walk (s.kind d)) c.args.target.now out c.add_all_met-in-loop-next.new.out c.loop-next.next c.at.result.now
    c.loop-next.invariant c.at.ensures (c.in_ok-add_all_met-2.ensures ∙ ap (λ (z : List Label). added out (met walk s z)) c.seen_from-labels.ensures)

pub returns : goal.returns
returns g c = λ q. (
  λ h. c.loop-next.invariant.sound q h,
  λ w.
      let s : Shape = g.G.Graph.shape c.args.graph.now in
      let walk = c.args.walk in
      walk_done (λ d. looked_at walk s d) (λ d. meets walk (s.kind d)) (λ d. goes_through walk (s.kind d)) c.args.target.now c.loop-next.out c.loop-next.next c.loop-next.invariant (omega arith) q w,
)
