use Rattle.std.proofs.Common.{option_map, ap, ◌∙◌}
use Rattle.gn_values.specs.View.{val_of}
use Rattle.gn_args.proofs.LastOverride.{override_taken}
use Rattle.gn_args.proofs.arguments.last_override.Goals as goal

pub loop-list-preserved : goal.loop-list-preserved
loop-list-preserved c =
    ap (option_map (λ v. val_of v.now)) c.or-found.ensures
    ∙ override_taken (λ v. val_of v.now) c.args.name.now c.args.lists.now c.loop-list.list-index c.list-item.result c.get.result c.loop-list.found c.loop-list-test.true c.list-item.is c.get.ensures c.loop-list.invariant
