use Rattle.std.proofs.Common.{ap}
use Rattle.gn_graph.specs.Clauses.{horns, waits_at}
use Rattle.gn_graph.specs.Facts.{steps_in}
use Rattle.gn_graph.specs.Numbers.{horns_at, facts_of}
use Rattle.gn_graph.proofs.States.{begun_sound}
use Rattle.gn_graph.proofs.closure.Closure.new.Goals as goal

pub invariant_of-result : goal.invariant_of-result
invariant_of-result c =
    begun_sound (steps_in c.no_parts.result.facts.keys) (horns c.no_parts.result.clauses.items) c.no_parts.result.held (waits_at c.no_parts.result.uses)
    (ap steps_in c.no_parts.ensures.facts) (ap horns c.no_parts.ensures.clauses) c.no_parts.ensures.held

pub returns : goal.returns
returns c = (λ i. record {
  waiting = horns_at (steps_in c.no_parts.result.facts.keys) (horns (c.no_parts.ensures.clauses i));
  found = facts_of (steps_in c.no_parts.result.facts.keys) (c.no_parts.ensures.held i);
})
