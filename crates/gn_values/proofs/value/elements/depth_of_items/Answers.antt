use Rattle.std.proofs.Common.{◌≡◌, max, arith, rules}
use Rattle.gn_values.specs.Val.{depth_of}
use Rattle.gn_values.specs.View.{val_of}
use Rattle.gn_values.proofs.Elements.{deepest_item_more}
use Rattle.gn_values.proofs.value.elements.depth_of_items.Goals as goal

pub loop-item-preserved : goal.loop-item-preserved
loop-item-preserved c =
    let more = deepest_item_more _ _ _ c.loop-item-test.true c.item-item.is in
    let v = c.loop-item.invariant in
    let deeper : c.max-deepest.result ≡ max c.loop-item.deepest (depth_of (val_of c.item-item.result)) = search rules in
    (omega arith, omega (arith, c.depth.ensures.value, c.depth.ensures.limit))
