use Rattle.std.proofs.Common.{◌≡◌}
use Rattle.gn_resolve.specs.Steps.{IsHeld, surroundings_of}
use Rattle.gn_resolve.proofs.PassLemmas.{AreWithin}
use Rattle.gn_resolve.proofs.passes.complete.Given as goal

abbrev pub invariant-loop-turn : goal.invariant-loop-turn
invariant-loop-turn l = record {
  held : IsHeld (surroundings_of l.frames) l.initial.graph.items l.graph.records;
  within : AreWithin l.frames l.initial.graph.items l.targets l.turn l.graph.records;
  items : l.graph.items ≡ l.initial.graph.items;
  default : l.graph.default ≡ l.initial.graph.default;
}
