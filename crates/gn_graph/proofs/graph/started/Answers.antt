use Rattle.std.proofs.Common.{[]}
use Rattle.gn_basics.proofs.Results.{if_ok}
use Rattle.gn_graph.proofs.States.{none_whole}
use Rattle.gn_graph.proofs.graph.started.Goals as goal

pub returns : goal.returns
returns c = record { whole = if_ok c.first_added.result (λ x h. h.whole [] none_whole) c.first_added.ensures.added }
