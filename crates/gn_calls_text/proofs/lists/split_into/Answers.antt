use Rattle.std.proofs.Common.{[], ◌∷◌, ◌++◌, map, length, ap, ◌∙◌, arith}
use Rattle.std.proofs.Math.Nat.{div-le_self}
use Rattle.std.proofs.lemmas.Result.{err_from_is_err_and}
use Rattle.gn_values.specs.Val.{vlist, vals_of}
use Rattle.gn_values.specs.Limits.{list_fits}
use Rattle.gn_values.specs.View.{val_of}
use Rattle.gn_calls_text.proofs.GrowthLemmas.{list_fails, moved, not_moved}
use Rattle.gn_calls_text.proofs.PartedLemmas.{parted_begins, total_is, lists_more, total_more, part_fits, rest_fits}
use Rattle.gn_calls_text.proofs.lists.split_into.Goals as goal

pub loop-left-init : goal.loop-left-init
loop-left-init c = (
  parted_begins c.args.count c.args.values.now c.args.lists.now c.requires.none,
  (total_is (length c.args.values.now) c.args.count c.requires.some, (c.requires.fits, ap list_fits c.requires.none)),
)

pub first_length-requires : goal.first_length-requires
first_length-requires c = let short = c.requires.short in omega (arith, div-le_self (length c.args.values.now) c.args.count)

pub push_list-requires : goal.push_list-requires
push_list-requires c =
    ap (λ vs. list_fits (map val_of vs)) c.split_at.ensures.front ∙ part_fits c.first_length.result c.loop-left.rest.now c.loop-left.invariant.1.1.0

pub returns-in_err-push_list : goal.returns-in_err-push_list
returns-in_err-push_list c =
    let p = err_from_is_err_and c.from_residual.result c.from_residual.ensures.1 in
    list_fails _ c.from_residual.result _ _ (c.loop-left.lists ++ vlist (vals_of (map val_of c.split_at.result.0.now)) ∷ []) _ _ p.1 p.2 c.in_err-push_list.ensures.err
    (not_moved _ (vlist (vals_of (map val_of c.split_at.result.0.now)) ∷ []) _ _ _ c.loop-left.invariant.0
    (lists_more c.loop-left.left _ c.loop-left.longer _ c.first_length.result c.loop-left.rest.now c.split_at.result.0.now c.split_at.result.1.now c.loop-left-test.true c.first_length.ensures c.saturating_sub-longer.ensures c.split_at.ensures.front c.split_at.ensures.back))

pub loop-left-preserved : goal.loop-left-preserved
loop-left-preserved c = (
  moved _ _ (vlist (vals_of (map val_of c.split_at.result.0.now)) ∷ []) _ _ _ c.loop-left.invariant.0
      (lists_more c.loop-left.left _ c.loop-left.longer _ c.first_length.result c.loop-left.rest.now c.split_at.result.0.now c.split_at.result.1.now c.loop-left-test.true c.first_length.ensures c.saturating_sub-longer.ensures c.split_at.ensures.front c.split_at.ensures.back)
      c.in_ok-push_list.ensures.ok,
  (
    total_more c.loop-left.left _ c.loop-left.longer _ c.first_length.result _ _ c.loop-left-test.true c.first_length.ensures c.saturating_sub-longer.ensures c.loop-left.invariant.1.0 c.split_at.ensures.back_len,
    (rest_fits c.first_length.result c.loop-left.rest.now c.split_at.result.1.now c.split_at.ensures.back c.loop-left.invariant.1.1.0, c.in_ok-push_list.ensures.fits),
  ),
)
