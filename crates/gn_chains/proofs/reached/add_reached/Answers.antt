use Rattle.std.proofs.Common.{◌≤◌, List, length, slice_get, sym, ap, ◌∙◌, arith}
use Rattle.std.proofs.lemmas.Map.Made.{length-le_from_is_member}
use Rattle.gn_dependencies.specs.Shape.{Shape}
use Rattle.gn_dependencies.proofs.Same.{label_equiv}
use Rattle.gn_chains.specs.declared.kinds.Walk.TheVariants.{Libraries}
use Rattle.gn_chains.specs.declared.graph.Node.{Node}
use Rattle.gn_chains.proofs.WalkState.{met_some}
use Rattle.gn_chains.proofs.ReachState.{reach_start, reach_on, reach_done}
use Rattle.gn_chains.proofs.reached.add_reached.Goals as goal

pub loop-next-init : goal.loop-next-init
loop-next-init g c = reach_start (g.G.Graph.shape c.args.graph.now) c.args.target.now c.args.out.now c.meet_near.new.out c.requires.labels c.requires.nodes c.in_ok-meet_near.ensures

pub loop-next-smaller : goal.loop-next-smaller
loop-next-smaller g c =
    let s : Shape = g.G.Graph.shape c.args.graph.now in
    let few : length c.loop-next.out.labels ≤ length (g.G.Graph.all c.args.graph.now)
    = length-le_from_is_member label_equiv c.loop-next.out.labels (g.G.Graph.all c.args.graph.now) c.len.ensures.once
    (λ q h. g.met.G.Graph.listed c.args.graph.now q (met_some Libraries s c.args.target.now q (c.loop-next.invariant.walk.sound q h))) in
    omega (arith, few)

pub loop-next-preserved : goal.loop-next-preserved
loop-next-preserved g c =
    reach_on (g.G.Graph.shape c.args.graph.now) c.args.target.now c.loop-next.out c.meet_behind.new.out c.loop-next.next c.node_at-node.result c.loop-next.invariant
    (omega arith) (ap (λ (z : List Node). slice_get z c.loop-next.next) (sym c.as_slice.ensures.value) ∙ c.node_at-node.ensures) c.in_ok-meet_behind.ensures

pub returns : goal.returns
returns g c = reach_done (g.G.Graph.shape c.args.graph.now) c.args.target.now c.loop-next.out c.loop-next.next c.loop-next.invariant (omega arith)
