use Rattle.std.proofs.Common.{◌≡◌, take}
use Rattle.gn_resolve.specs.Steps.{IsStep}
use Rattle.gn_resolve.proofs.resolving.pass.Given as goal

abbrev pub invariant-loop-target : goal.invariant-loop-target
invariant-loop-target l = record {
  step : IsStep l.frames l.initial.graph.items (take l.target-index l.targets) l.initial.graph.records l.graph.records;
  items : l.graph.items ≡ l.initial.graph.items;
  default : l.graph.default ≡ l.initial.graph.default;
}
