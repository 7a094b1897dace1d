use Rattle.std.proofs.Common.{◌≡◌, ◌++◌, take}
use Rattle.std.specs.List.{filter}
use Rattle.gn_writing.specs.Rest.{is_missing}
use Rattle.gn_writing.proofs.waiting.add_missing.Given as goal

abbrev pub invariant-loop-path : goal.invariant-loop-path
invariant-loop-path l = l.kept ≡ l.fn.kept ++ filter (is_missing l.names) (take l.path-index l.paths)
