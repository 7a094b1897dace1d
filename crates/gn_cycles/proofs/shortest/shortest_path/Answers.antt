use Rattle.gn_basics.proofs.Results.{if_ok}
use Rattle.gn_dependencies.specs.Shape.{all_deps}
use Rattle.gn_cycles.proofs.Searching.{earlier}
use Rattle.gn_cycles.proofs.shortest.shortest_path.Goals as goal

pub path_in-path-requires : goal.path_in-path-requires
path_in-path-requires g c = let r = c.in_ok-search.ensures in earlier c.in_ok-search.search.labels c.in_ok-search.search.sources.items r.0 r.1.1.0.known

pub returns : goal.returns
returns g c = if_ok c.path_in-path.result (λ path h. h (all_deps (g.G.Graph.shape c.args.graph.now)) c.args.from.now c.in_ok-search.ensures) c.path_in-path.ensures
