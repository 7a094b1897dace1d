use Rattle.std.proofs.Common.{◌≡◌}
use Rattle.std.specs.Ordering.{nat_cmp}
use Rattle.std.specs.Cmp.Lexicographic.{slice_cmp}
use Rattle.gn_values.specs.Tables.{with_names}
use Rattle.gn_layers.specs.Undoing.{all_put_back}
use Rattle.gn_layers.proofs.layer_merge.set_table.Given as goal

abbrev pub invariant-loop-name : goal.invariant-loop-name
invariant-loop-name g l = record {
  ok : with_names l.name-iterator l.table.entries ≡ with_names l.given.entries l.initial.table.entries;
  back : all_put_back (slice_cmp nat_cmp) l.before.items l.table.entries ≡ all_put_back (slice_cmp nat_cmp) l.initial.before.items l.initial.table.entries;
}
