use Rattle.std.proofs.Common.{◌≡◌, ◌++◌, map, take}
use Rattle.std.specs.List.{flat_map}
use Rattle.gn_book.specs.Logs.{key_at, state_of}
use Rattle.gn_projects.specs.Loaded.{written_by_key}
use Rattle.gn_built.specs.Files.{files_of}
use Rattle.gn_built.proofs.files.push_written.Given as goal

abbrev pub invariant-loop-number : goal.invariant-loop-number
invariant-loop-number l = files_of l.written.items ≡ files_of l.initial.written.items ++ flat_map (written_by_key l.default (state_of l.book).filed) (map (key_at l.book) (take l.number-index l.numbers))
