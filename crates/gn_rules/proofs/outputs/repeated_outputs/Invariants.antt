use Rattle.std.proofs.Common.{◌≡◌, ◌++◌, [], drop}
use Rattle.gn_rules.specs.Outputs.{all_made, made_again}
use Rattle.gn_rules.proofs.outputs.repeated_outputs.Given as goal

abbrev pub invariant-loop-label : goal.invariant-loop-label
invariant-loop-label g l =
    let made = g.G.Outputs.made l.graph in
    let ts = g.G.Outputs.generated l.graph in
    made_again [] (all_made made ts) ≡ l.again.items ++ made_again l.seen.keys (all_made made (drop l.label-index ts))
