use Rattle.std.proofs.Common.{ap, ◌∙◌, map}
use Rattle.std.specs.List.{filter}
use Rattle.gn_calls_text.specs.Calls.{text_list}
use Rattle.gn_calls_text.specs.Kept.{keeps}
use Rattle.gn_calls_text.specs.Rows.{part_lists}
use Rattle.gn_calls_text.specs.Views.{bytes_in}
use Rattle.gn_calls_text.proofs.FilterLemmas.{filter_read}
use Rattle.gn_calls_text.proofs.filters.filtered.Goals as goal

pub returns : goal.returns
returns c =
    let texts = map bytes_in c.args.texts.now in
    let patterns = map bytes_in c.args.patterns.now in
    c.in_ok-keep_texts.ensures ∙ ap text_list (ap (λ lists. filter (keeps c.args.keep lists) texts) (ap part_lists c.as_slice.ensures.value ∙ c.in_ok-lists.ensures) ∙ filter_read c.args.keep patterns texts)
