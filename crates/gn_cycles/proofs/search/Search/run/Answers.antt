use Rattle.std.proofs.Common.{◌+◌, ◌++◌}
use Rattle.gn_labels.specs.declared.label.Label.{Label}
use Rattle.gn_dependencies.specs.Shape.{Shape, all_deps}
use Rattle.gn_cycles.proofs.Searching.{begun, stepped, next_at}
use Rattle.gn_cycles.proofs.search.Search.run.Goals as goal

pub loop-next-init : goal.loop-next-init
loop-next-init g c =
    let s : Shape = g.G.Graph.shape c.args.graph.now in
    let d = c.dependencies.result in
    begun (all_deps s) c.args.from.now c.args.self.now.labels c.meet.new.self.labels ((d.0.now ++ d.1.now) ++ d.2.now) c.args.self.now.sources.items c.meet.new.self.sources.items
    c.requires.labels c.requires.sources c.dependencies.ensures c.in_ok-meet.ensures.labels c.in_ok-meet.ensures.sources

pub loop-next-preserved : goal.loop-next-preserved
loop-next-preserved g c =
    let s : Shape = g.G.Graph.shape c.args.graph.now in
    let t = c.args.from.now in
    let d = c.dependencies-found.result in
    let i = c.loop-next.invariant in
    let labels = c.loop-next.self.labels in
    stepped (all_deps s) t labels c.meet-in-loop-next.new.self.labels ((d.0.now ++ d.1.now) ++ d.2.now) c.loop-next.self.sources.items c.meet-in-loop-next.new.self.sources.items i.0
    (c.loop-next.next + 1) c.at.result.now i.1 (next_at (all_deps s) t labels c.loop-next.next c.at.result.now c.at.ensures) c.dependencies-found.ensures c.in_ok-meet-2.ensures.labels c.in_ok-meet-2.ensures.sources
