use Rattle.std.proofs.Common.{◌≡◌, arith, rules}
use Rattle.std.specs.Ordering.{nat_cmp}
use Rattle.std.specs.Cmp.Lexicographic.{slice_cmp}
use Rattle.std.specs.declared.cmp.Ordering.TheVariants.{Less, Greater}
use Rattle.gn_values.proofs.Sorted.{all_below, all_above}
use Rattle.gn_values.proofs.value.search.find_entry.Goals as goal

pub loop-low-preserved-in-Less : goal.loop-low-preserved-in-Less
loop-low-preserved-in-Less c =
    let before : slice_cmp nat_cmp c.index-entries-middle.result.name c.args.name.now ≡ Less = search rules in
    let v = c.loop-low.invariant in
    (omega arith, v.1, all_below _ _ c.requires _ _ (omega arith) c.index-entries-middle.is before, v.3)

pub loop-low-preserved : goal.loop-low-preserved
loop-low-preserved c =
    let after : slice_cmp nat_cmp c.index-entries-middle.result.name c.args.name.now ≡ Greater = search rules in
    let v = c.loop-low.invariant in
    (omega arith, omega arith, v.2, all_above _ _ c.requires _ _ (omega arith) c.index-entries-middle.is after)
