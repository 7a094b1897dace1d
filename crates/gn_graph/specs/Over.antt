-- What a graph keeps.
use Rattle.std.specs.Prelude.{◌≡◌, ◌≤◌, [], None, map, length}
use Rattle.gn_closure.specs.Reach.{Setup}
use Rattle.gn_graph.specs.declared.graph.Graph.TheInside.{Inside}
use Rattle.gn_graph.specs.Graphs.{Answers, reply_of, told_by}
use Rattle.gn_graph.specs.Counts.{AreCounts}
use Rattle.gn_graph.specs.Numbers.{IsWhole}
use Rattle.gn_graph.specs.Replies.{units_in, AreSingle, default_in, all_rules}

abbrev pub answers_in : Inside → Answers
answers_in g = record { replies = map told_by g.told.items; found = g.closure.found }

-- what was found follows from the rules of the answers; and all answers are kept as long as the default toolchain isn't known
pub record IsOver (g : Inside) : Type 0 where
  pub whole : IsWhole (all_rules (map told_by g.told.items)) g.closure
  pub default : g.default ≡ default_in (units_in (map told_by g.told.items) (Setup []))
  pub early : g.default ≡ None → map reply_of g.early.items ≡ map told_by g.told.items
  pub single : AreSingle (map told_by g.told.items)
  pub counts : AreCounts g.closure.found g.counts
  pub all : length g.closure.found ≤ g.counts.seen
