use Rattle.std.proofs.Common.{◌≡◌, ◌++◌, take, map}
use Rattle.std.specs.List.{flat_map}
use Rattle.gn_writing.specs.Kinds.{source_outs}
use Rattle.gn_writing.proofs.made.add_units.Given as goal

abbrev pub invariant-loop-unit : goal.invariant-loop-unit
invariant-loop-unit l = map (λ t. t.now) l.outs.items ≡ map (λ t. t.now) l.fn.outs.items ++ flat_map source_outs (take l.unit-index l.units)
