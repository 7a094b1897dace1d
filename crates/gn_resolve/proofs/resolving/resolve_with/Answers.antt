use Rattle.std.proofs.lemmas.Result.{on_ok_weaker}
use Rattle.gn_records.specs.Around.{around}
use Rattle.gn_resolve.specs.Steps.{surroundings_in}
use Rattle.gn_resolve.proofs.Put.{resolved_with}
use Rattle.gn_resolve.proofs.resolving.resolve_with.Goals as goal

pub returns-clause-resolved : goal.returns-clause-resolved
returns-clause-resolved c =
    on_ok_weaker c.put.result (λ put.
    resolved_with (surroundings_in (around c.args.context.now)) c.args.graph.now.items c.args.graph.now.records c.put.new.self c.in_ok-label.label c.args.target.now c.in_ok-entry.entry
    c.in_ok-label.ensures put c.requires.held c.requires.ready c.in_ok-entry.ensures)
    c.put.ensures.put
