use Rattle.std.proofs.Common.{ℕ, List, [], ◌∷◌, ◌++◌, ap, ◌∙◌, sym, map}
use Rattle.gn_values.specs.Val.{vstr}
use Rattle.gn_values.specs.Limits.{list_fits}
use Rattle.gn_calls_text.specs.Calls.{text_list}
use Rattle.std.specs.List.{filter}
use Rattle.gn_calls_text.specs.Kept.{keeps}
use Rattle.gn_calls_text.specs.Rows.{part_lists}
use Rattle.gn_calls_text.specs.Views.{bytes_in}
use Rattle.gn_calls_text.proofs.FilterLemmas.{room_left, kept_more}
use Rattle.gn_calls_text.proofs.filters.keep_texts.Goals as goal

pub keep_text-requires : goal.keep_text-requires
keep_text-requires c =
    ap (λ vs. list_fits (vs ++ vstr c.bytes_of.result.now ∷ [])) c.loop-text.invariant
    ∙ room_left (keeps c.args.keep (part_lists c.args.lists.now)) (map bytes_in c.args.texts.now) c.loop-text.text-index _ c.bytes_of.result.now c.loop-text-test.true c.requires.short

pub loop-text-preserved : goal.loop-text-preserved
loop-text-preserved c =
    let p = λ (t : List ℕ). keeps c.args.keep (part_lists c.args.lists.now) t in
    c.in_ok-keep_text.ensures ∙ (λ i. c.loop-text.invariant i ++ text_list (filter p (c.bytes_of.ensures i ∷ [])))
    ∙ sym (kept_more p c.args.texts.now c.loop-text.text-index _ c.loop-text-test.true c.text-item.is)
