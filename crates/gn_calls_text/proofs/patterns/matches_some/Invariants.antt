use Rattle.std.proofs.Common.{◌≡◌, drop}
use Rattle.gn_calls_text.specs.Kept.{matches_some_parts}
use Rattle.gn_calls_text.specs.Rows.{part_lists}
use Rattle.gn_calls_text.proofs.patterns.matches_some.Given as goal

abbrev pub invariant-loop-parts : goal.invariant-loop-parts
invariant-loop-parts l =
    matches_some_parts (part_lists (drop l.parts-index l.lists)) l.text ≡ matches_some_parts (part_lists l.lists) l.text
