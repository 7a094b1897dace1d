use Rattle.std.proofs.Common.{◌≡◌, ◌++◌, map, take}
use Rattle.gn_paths.specs.Rebase.{seen_from}
use Rattle.gn_records.proofs.flags.add_seen.Given as goal

abbrev pub invariant-loop-path : goal.invariant-loop-path
invariant-loop-path l = l.list ≡ l.fn.list ++ map (seen_from l.build) (take l.path-index l.paths)
