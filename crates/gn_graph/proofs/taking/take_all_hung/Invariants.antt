use Rattle.std.proofs.Common.{map, take}
use Rattle.gn_graph.specs.Facts.{unit_of, rules_in, under}
use Rattle.gn_graph.specs.States.{Grown, TookIn}
use Rattle.gn_graph.specs.Kept.{state_of}
use Rattle.gn_graph.proofs.taking.take_all_hung.Given as goal

abbrev pub invariant-loop-rule : goal.invariant-loop-rule
invariant-loop-rule l = record {
  grown : Grown (state_of l.initial.parts) (state_of l.parts);
  took : TookIn l.start (state_of l.initial.parts) (state_of l.parts) (map (under (unit_of l.unit)) (rules_in (take l.rule-index l.rules)));
}
