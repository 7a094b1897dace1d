use Rattle.gn_values.specs.View.{val_of}
use Rattle.gn_values.proofs.Marked.{marked_with}
use Rattle.gn_values.proofs.Setting.{sorted_with}
use Rattle.gn_values.proofs.bindings.Bindings.set.Goals as goal

pub invariant_of-self-2 : goal.invariant_of-self-2
invariant_of-self-2 c =
    rw c.in_ok-_added.ensures.ok
    (record {
      sorted = sorted_with c.args.name (val_of c.args.value) _ c.self.invariant.sorted;
      marked = marked_with _ _ c.with-marks.ensures.keeps c.args.name (val_of c.args.value) _ (rw (← c.as_bytes.ensures) c.with-marks.ensures.itself) c.self.invariant.marked;
    })
