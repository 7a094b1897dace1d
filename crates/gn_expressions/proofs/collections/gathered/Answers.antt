use Rattle.std.proofs.Common.{[], ◌∷◌, ◌++◌, map, append_assoc, arith}
use Rattle.std.proofs.lemmas.Grind.{common_steps}
use Rattle.std.specs.Vec.Iter.{into_iter_items}
use Rattle.gn_values.specs.View.{val_of}
use Rattle.gn_value_model.proofs.Within.{list_over}
use Rattle.gn_expressions.proofs.collections.gathered.Goals as goal

pub returns-in_err-push-clause-err : goal.returns-in_err-push-clause-err
returns-in_err-push-clause-err c =
    let less = list_over (c.loop-value.items ++ val_of c.in-Some.value ∷ []) (map val_of (into_iter_items c.next.new.self)) in
    let whole = append_assoc c.loop-value.items (val_of c.in-Some.value ∷ []) (map val_of (into_iter_items c.next.new.self)) in
    grind (arith, common_steps, less, whole)
