use Rattle.std.proofs.Common.{◌≡◌, take}
use Rattle.std.specs.List.{flat_map}
use Rattle.gn_records.specs.Around.{around}
use Rattle.gn_records.specs.Outputs.{meant_by}
use Rattle.gn_records.proofs.outputs.all_meant.Given as goal

abbrev pub invariant-loop-text : goal.invariant-loop-text
invariant-loop-text l = l.paths ≡ flat_map (meant_by (around l.context) l.item l.given) (take l.text-index l.texts)
