use Rattle.std.proofs.Common.{ap, ◌∙◌}
use Rattle.gn_values.specs.View.{val_of}
use Rattle.gn_values.specs.Tables.{with_name}
use Rattle.gn_layers.specs.View.{value_pairs}
use Rattle.gn_basics.proofs.Orders.{order}
use Rattle.gn_basics.proofs.Tables.{insert_entry-seen}
use Rattle.gn_layers.proofs.laid.put_value.Goals as goal

pub returns : goal.returns
returns c =
    let es = c.args.values.now.entries in
    ap value_pairs c.in_ok-insert.ensures.entries ∙ insert_entry-seen val_of order es _ _ ∙ (λ i. with_name (c.in_ok-from_bytes.ensures i) (val_of c.args.value) (value_pairs es))
