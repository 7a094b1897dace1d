use Rattle.std.proofs.Common.{◌≤◌, List, length, ap, ◌∙◌, arith}
use Rattle.std.proofs.lemmas.Map.Made.{length-le_from_is_member}
use Rattle.gn_labels.specs.declared.label.Label.{Label}
use Rattle.gn_dependencies.specs.Lists.{added}
use Rattle.gn_dependencies.specs.Shape.{Shape}
use Rattle.gn_dependencies.proofs.Same.{label_equiv}
use Rattle.gn_reached.proofs.State.{begun, gone_on, done, lead, in_lead}
use Rattle.gn_reached.proofs.walking.walked_from.Goals as goal

pub loop-next-init : goal.loop-next-init
loop-next-init g c = begun (g.G.Graph.shape c.args.graph.now) c.args.targets.now c.new-out.result c.add_all.new.self c.new-out.ensures c.in_ok-add_all.ensures

pub loop-next-smaller : goal.loop-next-smaller
loop-next-smaller g c =
    let s : Shape = g.G.Graph.shape c.args.graph.now in
    let few : length c.loop-next.out ≤ length (lead s c.args.targets.now (g.G.Graph.all c.args.graph.now))
    = length-le_from_is_member label_equiv c.loop-next.out (lead s c.args.targets.now (g.G.Graph.all c.args.graph.now)) c.len.ensures.once
    (λ q h. in_lead s c.args.targets.now (g.G.Graph.all c.args.graph.now) c.requires q (c.loop-next.invariant.sound q h)) in
    omega (arith, few)

pub loop-next-preserved : goal.loop-next-preserved
loop-next-preserved g c =
    let s : Shape = g.G.Graph.shape c.args.graph.now in
    gone_on s c.args.targets.now c.loop-next.out c.add_three.new.out c.loop-next.next c.at.result.now c.loop-next.invariant c.at.ensures
    (c.in_ok-add_three.ensures ∙ ap (λ (z : List Label). added c.loop-next.out z) c.dependencies-labels.ensures)

pub returns : goal.returns
returns g c = λ q. (
  λ h. c.loop-next.invariant.sound q h,
  λ w. done (g.G.Graph.shape c.args.graph.now) c.args.targets.now c.loop-next.out c.loop-next.next c.loop-next.invariant (omega arith) q w,
)
