use Rattle.std.proofs.Common.{◌≡◌, ◌++◌, List, drop}
use Rattle.gn_rules.specs.declared.outputs.MadeOutput.{MadeOutput}
use Rattle.gn_rules.specs.Outputs.{made_by, made_again}
use Rattle.gn_rules.proofs.outputs.see_all.Given as goal

abbrev pub invariant-loop-output : goal.invariant-loop-output
invariant-loop-output l = (rest : List MadeOutput) → l.initial.again.items ++ made_again l.initial.seen.keys (made_by l.label l.outputs ++ rest)
    ≡ l.again.items ++ made_again l.seen.keys (made_by l.label (drop l.output-index l.outputs) ++ rest)
