use Rattle.std.proofs.Common.{refl, ap}
use Rattle.gn_values.specs.View.{val_of}
use Rattle.gn_values.proofs.Setting.{put_there, put_between, not_new, is_new}
use Rattle.gn_values.proofs.value.search.set_entry.Goals as goal

pub returns-in-Ok-clause-ok : goal.returns-in-Ok-clause-ok
returns-in-Ok-clause-ok c =
    put_there _ _ _ _ _ _ c.index_mut.result.now _ c.as_bytes.ensures c.as_slice.ensures.value c.requires c.in-Ok.ensures (ap (λ e. e.name) c.index_mut.ensures.value) refl

pub returns-in-Ok-clause-added : goal.returns-in-Ok-clause-added
returns-in-Ok-clause-added c =
    not_new _ (val_of c.args.value) _ _ _ _ c.index_mut.result.now c.as_bytes.ensures c.as_slice.ensures.value c.requires c.in-Ok.ensures

pub returns-in_ok-insert-in-Err-clause-ok : goal.returns-in_ok-insert-in-Err-clause-ok
returns-in_ok-insert-in-Err-clause-ok c =
    rw c.in_ok-insert-in-Err.ensures.items (put_between _ _ _ _ _ _ _ c.as_bytes.ensures c.as_slice.ensures.value c.in-Err.ensures refl)

pub returns-in_ok-insert-in-Err-clause-added : goal.returns-in_ok-insert-in-Err-clause-added
returns-in_ok-insert-in-Err-clause-added c =
    is_new _ (val_of c.args.value) _ _ _ _ c.as_bytes.ensures c.as_slice.ensures.value c.requires c.in-Err.ensures
