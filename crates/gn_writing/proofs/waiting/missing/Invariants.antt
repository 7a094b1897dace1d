use Rattle.std.proofs.Common.{◌≡◌, take}
use Rattle.std.specs.List.{filter}
use Rattle.gn_writing.specs.Rest.{is_missing, joined}
use Rattle.gn_writing.proofs.waiting.missing.Given as goal

abbrev pub invariant-loop-list : goal.invariant-loop-list
invariant-loop-list l = l.kept ≡ filter (is_missing l.names) (joined (take l.list-index l.lists))
