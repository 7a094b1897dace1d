use Rattle.std.proofs.Common.{◌≡◌, map, take}
use Rattle.gn_records.specs.Around.{around}
use Rattle.gn_records.specs.Plain.{copied}
use Rattle.gn_records.proofs.copies.all_copied.Given as goal

abbrev pub invariant-loop-source : goal.invariant-loop-source
invariant-loop-source l = l.files.items ≡ map (copied (around l.context) l.item) (take l.source-index l.sources)
