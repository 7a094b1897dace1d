use Rattle.std.proofs.Common.{◌∷◌, [], ◌++◌, List, map, sym, ap, ◌∙◌}
use Rattle.std.specs.Vec.Iter.{into_iter_items}
use Rattle.std.proofs.lemmas.List.{append_assoc}
use Rattle.gn_values.specs.Val.{Val}
use Rattle.gn_values.specs.View.{entry_of}
use Rattle.gn_values.specs.declared.value.Entry.{Entry}
use Rattle.gn_values.specs.Tables.{Table}
use Rattle.gn_layers.specs.Named.{texted}
use Rattle.gn_layers.specs.View.{value_pairs}
use Rattle.gn_scopes.proofs.NamedGiven.{IsLonger-then}
use Rattle.gn_scopes.proofs.named_gives.numbered.Goals as goal

pub loop-entry-preserved : goal.loop-entry-preserved
loop-entry-preserved c =
    let names = c.loop-entry.names in
    let h = c.in_ok-push_numbered.ensures in
    let so_far = texted names (value_pairs c.loop-entry.values.items) in
    let rest : Table Val = map entry_of (into_iter_items c.next.new.self) in
    record {
      longer = IsLonger-then c.args.names.now names c.push_numbered.new.names c.loop-entry.invariant.longer h.longer;
      different = h.different;
      numbers = h.numbers;
      values = ap (λ (t : Table Val). t ++ rest) h.values ∙ append_assoc so_far (entry_of c.in-Some.entry ∷ []) rest
          ∙ ap (λ (l : List Entry). so_far ++ map entry_of l) (sym c.in-Some.ensures.steps.0) ∙ c.loop-entry.invariant.values;
    }
