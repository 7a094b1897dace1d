use Rattle.std.proofs.Common.{◌≡◌, ◌++◌, take}
use Rattle.std.specs.List.{flat_map}
use Rattle.gn_records.specs.Around.{fields_of}
use Rattle.gn_records.specs.Flags.{texts_at}
use Rattle.gn_records.proofs.flags.add_texts.Given as goal

abbrev pub invariant-loop-config : goal.invariant-loop-config
invariant-loop-config l = l.list ≡ l.fn.list ++ flat_map (texts_at l.variable) (fields_of (take l.config-index l.configs))
