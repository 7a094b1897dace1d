use Rattle.std.proofs.Common.{◌≡◌}
use Rattle.std.specs.Vec.Iter.{into_iter_items}
use Rattle.std.specs.Ordering.{nat_cmp}
use Rattle.std.specs.Cmp.Lexicographic.{slice_cmp}
use Rattle.gn_layers.specs.View.{variables_in, value_pairs}
use Rattle.gn_environment.specs.Giving.{variables_given}
use Rattle.gn_layers.specs.Undoing.{all_put_back}
use Rattle.gn_layers.proofs.layer_gives.give_each.Given as goal

abbrev pub invariant-loop-name : goal.invariant-loop-name
invariant-loop-name l = record {
  given : variables_given (value_pairs (into_iter_items l.name-iterator)) (variables_in l.variables.entries) ≡ variables_given (value_pairs l.fn.values.items) (variables_in l.fn.variables.entries);
  back : all_put_back (slice_cmp nat_cmp) l.before.items l.variables.entries ≡ all_put_back (slice_cmp nat_cmp) l.fn.before.items l.fn.variables.entries;
}
