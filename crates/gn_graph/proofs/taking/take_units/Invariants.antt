use Rattle.std.proofs.Common.{take}
use Rattle.gn_graph.specs.Facts.{unit_rules_in}
use Rattle.gn_graph.specs.States.{Grown, TookIn}
use Rattle.gn_graph.specs.Kept.{state_of}
use Rattle.gn_graph.proofs.taking.take_units.Given as goal

abbrev pub invariant-loop-unit : goal.invariant-loop-unit
invariant-loop-unit l = record {
  grown : Grown (state_of l.initial.parts) (state_of l.parts);
  took : TookIn l.start (state_of l.initial.parts) (state_of l.parts) (unit_rules_in (take l.unit-index l.rules));
}
