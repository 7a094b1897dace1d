use Rattle.std.proofs.Common.{◌≡◌, max, arith, rules}
use Rattle.gn_values.specs.Val.{depth_of}
use Rattle.gn_values.specs.View.{val_of}
use Rattle.gn_values.proofs.Setting.{deepest_more}
use Rattle.gn_values.proofs.value.search.depth_of_entries.Goals as goal

pub loop-entry-preserved : goal.loop-entry-preserved
loop-entry-preserved c =
    let more = deepest_more _ _ _ c.loop-entry-test.true c.entry-item.is in
    let v = c.loop-entry.invariant in
    let deeper : c.max-deepest.result ≡ max c.loop-entry.deepest (depth_of (val_of c.entry-item.result.value)) = search rules in
    (omega arith, omega (arith, c.depth.ensures.value, c.depth.ensures.limit))
