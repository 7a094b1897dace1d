use Rattle.std.proofs.Common.{◌≡◌, take, map}
use Rattle.std.specs.List.{filter}
use Rattle.gn_calls_text.specs.Calls.{text_list}
use Rattle.gn_calls_text.specs.Kept.{keeps}
use Rattle.gn_calls_text.specs.Rows.{part_lists}
use Rattle.gn_calls_text.specs.Views.{bytes_in}
use Rattle.gn_calls_text.proofs.filters.keep_texts.Given as goal

abbrev pub invariant-loop-text : goal.invariant-loop-text
invariant-loop-text l = l.kept ≡ text_list (filter (keeps l.keep (part_lists l.lists)) (take l.text-index (map bytes_in l.texts)))
