use Rattle.std.proofs.Common.{◌≡◌, ◌++◌, map, drop}
use Rattle.std.specs.List.{flat_map}
use Rattle.gn_graph.specs.Facts.{unit_rules_in}
use Rattle.gn_graph.specs.Graphs.{reply_of}
use Rattle.gn_graph.specs.Replies.{reply_rules}
use Rattle.gn_graph.proofs.graph.all_rules.Given as goal

abbrev pub invariant-loop-answered : goal.invariant-loop-answered
invariant-loop-answered l =
    unit_rules_in l.initial.rules.items ++ flat_map (reply_rules l.default) (map reply_of l.answers)
    ≡ unit_rules_in l.rules.items ++ flat_map (reply_rules l.default) (map reply_of (drop l.answered-index l.answers))
