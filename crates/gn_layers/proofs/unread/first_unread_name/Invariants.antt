use Rattle.std.proofs.Common.{◌≡◌, option_map}
use Rattle.gn_layers.specs.Named.{texted}
use Rattle.gn_environment.specs.Unread.{first_unread_of, earlier}
use Rattle.gn_layers.specs.View.{variables_in}
use Rattle.gn_layers.proofs.unread.first_unread_name.Given as goal

abbrev pub invariant-loop-number : goal.invariant-loop-number
invariant-loop-number l =
    earlier (option_map (λ p. (p.0.now, p.1)) l.first) (first_unread_of (texted l.names (variables_in l.number-iterator))) ≡ first_unread_of (texted l.names (variables_in l.variables.entries))
