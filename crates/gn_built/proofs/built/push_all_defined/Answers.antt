use Rattle.std.proofs.Common.{map}
use Rattle.gn_items.specs.Effects.{Effects}
use Rattle.gn_built.proofs.BuiltLemmas.{within_index, left_more}
use Rattle.gn_built.proofs.built.push_all_defined.Goals as goal

pub left_at-requires : goal.left_at-requires
left_at-requires c = within_index c.args.book.now c.args.numbers.now c.requires c.loop-number.number-index c.loop-number-test.true

pub loop-number-preserved : goal.loop-number-preserved
loop-number-preserved c =
    left_more (λ (e : Effects). e.items) c.args.book.now c.args.numbers.now c.loop-number.number-index (map (λ d. d.now) c.args.defined.now.items) (map (λ d. d.now) c.loop-number.defined.items) _ _ c.loop-number-test.true c.loop-number.invariant
    c.in_ok-push_defined.ensures c.left_at.ensures
