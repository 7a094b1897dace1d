use Rattle.std.proofs.Common.{map, take}
use Rattle.gn_graph.specs.Facts.{meant, steps_in}
use Rattle.gn_graph.specs.Numbers.{Extends, AreAt}
use Rattle.gn_graph.proofs.numbering.numbers.Given as goal

abbrev pub invariant-loop-mention : goal.invariant-loop-mention
invariant-loop-mention l = record {
  grows : Extends (steps_in l.initial.facts.keys) (steps_in l.facts.keys);
  at : AreAt (steps_in l.facts.keys) l.numbers.items (map meant (take l.mention-index l.list));
}
