use Rattle.std.proofs.Common.{◌≡◌, ◌++◌, map}
use Rattle.std.specs.List.{AllByRecursion}
use Rattle.std.specs.Vec.Iter.{into_iter_items}
use Rattle.gn_text.specs.Names.{AllDifferent}
use Rattle.gn_values.specs.View.{entry_of}
use Rattle.gn_layers.specs.Named.{texted, IsNumber, IsLonger}
use Rattle.gn_layers.specs.View.{value_pairs}
use Rattle.gn_scopes.proofs.named_gives.numbered.Given as goal

abbrev pub invariant-loop-entry : goal.invariant-loop-entry
invariant-loop-entry l = record {
  longer : IsLonger l.fn.names l.names;
  different : AllDifferent l.names;
  numbers : AllByRecursion (λ e. IsNumber l.names e.0) (value_pairs l.values.items);
  values : texted l.names (value_pairs l.values.items) ++ map entry_of (into_iter_items l.entry-iterator) ≡ map entry_of l.fn.entries.items;
}
