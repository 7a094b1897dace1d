use Rattle.std.proofs.Common.{◌≡◌, take}
use Rattle.std.specs.List.{flat_map}
use Rattle.gn_define.specs.Outputs.{outputs_for}
use Rattle.gn_define.proofs.outputs.outputs_of_sources.Given as goal

abbrev pub invariant-loop-source : goal.invariant-loop-source
invariant-loop-source l = l.paths.items ≡ flat_map (outputs_for l.fn.place l.fn.substs) (take l.source-index l.sources)
