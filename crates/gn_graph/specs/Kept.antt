-- How rules and what follows from them are kept.
use Rattle.gn_graph.specs.declared.parts.Parts.{Parts}
use Rattle.gn_graph.specs.Clauses.{horns, waits_at}
use Rattle.gn_graph.specs.Facts.{steps_in}
use Rattle.gn_graph.specs.States.{State, state}

abbrev pub state_of : Parts → State
state_of p = state (steps_in p.facts.keys) (horns p.clauses.items) p.held (waits_at p.uses)
