use Rattle.std.proofs.Common.{◌≡◌, take, option_map}
use Rattle.gn_values.specs.View.{val_of}
use Rattle.gn_args.specs.Arguments.{override_of}
use Rattle.gn_args.proofs.arguments.last_override.Given as goal

abbrev pub invariant-loop-list : goal.invariant-loop-list
invariant-loop-list l = option_map (λ v. val_of v.now) l.found ≡ override_of l.name (take l.list-index l.lists)
