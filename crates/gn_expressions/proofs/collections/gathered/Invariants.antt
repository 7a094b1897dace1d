use Rattle.std.proofs.Common.{◌≡◌, true, map, ◌++◌}
use Rattle.std.specs.Vec.Iter.{into_iter_items}
use Rattle.gn_values.specs.View.{val_of}
use Rattle.gn_values.specs.Limits.{list_fits}
use Rattle.gn_expressions.proofs.collections.gathered.Given as goal

abbrev pub invariant-loop-value : goal.invariant-loop-value
invariant-loop-value l = record {
  whole : l.items ++ map val_of (into_iter_items l.value-iterator) ≡ map val_of l.fn.values.items;
  fits : list_fits l.items ≡ true;
}
