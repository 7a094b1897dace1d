use Rattle.std.proofs.Common.{◌≡◌, take}
use Rattle.gn_records.specs.Around.{fields_of}
use Rattle.gn_resolve.specs.Table.{configs_of}
use Rattle.gn_resolve.proofs.configs.configs_of.Given as goal

abbrev pub invariant-loop-label : goal.invariant-loop-label
invariant-loop-label l = fields_of l.out.items ≡ configs_of l.items (take l.label-index l.labels)
