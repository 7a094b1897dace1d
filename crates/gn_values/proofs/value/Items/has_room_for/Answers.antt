use Rattle.std.proofs.Common.{◌<◌, length, ap, arith}
use Rattle.std.proofs.lemmas.List.{length-map}
use Rattle.gn_values.specs.Limits.{max_items}
use Rattle.gn_values.specs.Shared.{parts}
use Rattle.gn_values.specs.View.{val_of, vals_in}
use Rattle.gn_value_model.proofs.Within.{room_for}
use Rattle.gn_values.proofs.value.Items.has_room_for.Goals as goal

pub returns-then-as_slice-lt-MAX_ITEMS : goal.returns-then-as_slice-lt-MAX_ITEMS
returns-then-as_slice-lt-MAX_ITEMS c =
    let few : length (vals_in (parts c.self.inside.items)) < max_items = omega (arith, length-map (parts c.self.inside.items) val_of, ap length c.as_slice.ensures) in
    rw (← c.self.view_is) (room_for _ _ _ c.self.invariant.limits few c.depth.ensures.value)
