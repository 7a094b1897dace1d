use Rattle.std.proofs.Common.{◌≡◌}
use Rattle.gn_resolve.specs.Steps.{IsHeld, surroundings_of}
use Rattle.gn_resolve.proofs.together.resolve_levels.Given as goal

abbrev pub invariant-loop-level : goal.invariant-loop-level
invariant-loop-level g l = record {
  held : IsHeld (surroundings_of l.frames) l.initial.graph.items l.graph.records;
  items : l.graph.items ≡ l.initial.graph.items;
  default : l.graph.default ≡ l.initial.graph.default;
}
