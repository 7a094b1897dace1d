use Rattle.std.proofs.Common.{◌≡◌, ◌++◌, map, take}
use Rattle.std.specs.List.{flat_map}
use Rattle.gn_book.specs.Logs.{key_at}
use Rattle.gn_projects.specs.Loaded.{imported_by_key}
use Rattle.gn_built.specs.Files.{paths_lent}
use Rattle.gn_built.proofs.files.push_imported.Given as goal

abbrev pub invariant-loop-number : goal.invariant-loop-number
invariant-loop-number l = paths_lent l.paths.items ≡ paths_lent l.initial.paths.items ++ flat_map imported_by_key (map (key_at l.book) (take l.number-index l.numbers))
