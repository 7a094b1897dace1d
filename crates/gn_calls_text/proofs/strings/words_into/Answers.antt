use Rattle.std.proofs.Common.{◌++◌, ◌-◌, [], ◌∷◌, take, drop, sym, ap, ◌∙◌}
use Rattle.std.proofs.lemmas.Result.{err_from_is_err_and}
use Rattle.gn_values.specs.Limits.{list_fits}
use Rattle.std.specs.List.{filter}
use Rattle.gn_calls_text.specs.Calls.{text_list}
use Rattle.gn_calls_text.specs.Pieces.{is_filled}
use Rattle.gn_calls_text.proofs.GrowthLemmas.{list_fails, list_settled, not_moved}
use Rattle.gn_calls_text.proofs.WordLemmas.{words_cut, words_over, gathered_run, gathered_byte}
use Rattle.gn_calls_text.proofs.strings.words_into.Goals as goal
use Rattle.gn_calls_text.proofs.strings.words_into.Goals.{then-is_white_space+in_ok-push_run, else-is_white_space}

pub returns-in_err-push_run : goal.returns-in_err-push_run
returns-in_err-push_run c =
    let p = err_from_is_err_and c.from_residual.result c.from_residual.ensures.1 in
    list_fails _ c.from_residual.result _ _ (c.loop-place.runs ++ text_list (filter is_filled (take (c.loop-place.place - c.loop-place.start) (drop c.loop-place.start c.args.text.now) ∷ []))) _ _ p.1 p.2 c.in_err-push_run.ensures.err
    (not_moved _ _ _ _ _ c.loop-place.invariant.1.0 (words_cut c.args.text.now c.loop-place.runs c.loop-place.start c.loop-place.place c.loop-place.invariant c.loop-place-test.true (sym c.if-is_white_space.ensures)))

pub loop-place-preserved : goal.loop-place-preserved
loop-place-preserved c = elim c.if-is_white_space.branch [
  | then-is_white_space+in_ok-push_run w ↦ gathered_run _ _ _ _ _ _ c.loop-place.invariant c.loop-place-test.true (sym w.if-is_white_space.ensures) w.start-is (w.runs-is ∙ w.in_ok-push_run.ensures.ok) (ap list_fits w.runs-is ∙ w.in_ok-push_run.ensures.fits)
  | else-is_white_space w ↦ gathered_byte _ _ _ _ _ _ c.loop-place.invariant c.loop-place-test.true (sym w.if-is_white_space.ensures) w.start-is w.runs-is
]

pub returns : goal.returns
returns c =
    list_settled c.push_run-2.result _ _ _ c.push_run-2.ensures.ok c.push_run-2.ensures.fits c.push_run-2.ensures.err
    (words_over c.args.text.now c.loop-place.runs c.loop-place.start c.loop-place.place c.loop-place.invariant c.loop-place-test.false c.loop-place.auto.place-end)
