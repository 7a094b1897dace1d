use Rattle.std.proofs.Common.{◌≡◌, take, map}
use Rattle.gn_writing.specs.Kinds.{source_block}
use Rattle.gn_ninja.specs.Format.{with_blocks}
use Rattle.gn_ninja.proofs.targets.append_sources.Given as goal

abbrev pub invariant-loop-unit : goal.invariant-loop-unit
invariant-loop-unit l = l.text.items ≡ with_blocks l.fn.text.items (map (source_block l.target) (take l.unit-index l.target.sources.units))
