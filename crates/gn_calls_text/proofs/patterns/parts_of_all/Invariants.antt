use Rattle.std.proofs.Common.{◌≡◌, ◌++◌, map, drop}
use Rattle.gn_calls_text.specs.Patterns.{parts_of}
use Rattle.gn_calls_text.specs.Rows.{part_lists}
use Rattle.gn_calls_text.specs.Views.{bytes_in}
use Rattle.gn_calls_text.proofs.patterns.parts_of_all.Given as goal

abbrev pub invariant-loop-pattern : goal.invariant-loop-pattern
invariant-loop-pattern l =
    part_lists l.lists.items ++ map parts_of (map bytes_in (drop l.pattern-index l.patterns)) ≡ map parts_of (map bytes_in l.patterns)
