use Rattle.gn_basics.proofs.Results.{if_ok}
use denote.Param.Send.{sendable}
use Rattle.gn_resolve.specs.Steps.{surroundings_of}
use Rattle.gn_resolve.proofs.Putting.{all_given}
use Rattle.gn_resolve.proofs.together.ready_entries.Goals as goal

pub deal-requires-sync-F : goal.deal-requires-sync-F
deal-requires-sync-F g c κs within = search (c.graphs_are_shared.ensures, sendable) depth 20

pub returns : goal.returns
returns g c =
    let graph = c.args.graph.now in
    if_ok c.deal.result (λ all made. all_given (surroundings_of c.args.frames.now) graph.items graph.records _ all.items made.0 made.1 (λ place one within is. is)) c.deal.ensures
