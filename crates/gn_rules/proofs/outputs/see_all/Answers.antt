use Rattle.std.proofs.Common.{◌++◌, ◌+◌, List, [], drop, ap, ◌∙◌, arith}
use Rattle.std.proofs.lemmas.List.{drop_all}
use Rattle.gn_rules.specs.declared.outputs.MadeOutput.{MadeOutput}
use Rattle.gn_rules.specs.Outputs.{made_by, made_again}
use Rattle.gn_rules.proofs.Repeats.{outputs_next}
use Rattle.gn_rules.proofs.outputs.see_all.Goals as goal

pub loop-output-preserved : goal.loop-output-preserved
loop-output-preserved c = λ rest.
    let t = c.args.label.now in
    let outputs = c.args.outputs.now in
    let i = c.loop-output.output-index in
    let next : List MadeOutput = made_by t (drop (i + 1) outputs) ++ rest in
    c.loop-output.invariant rest
    ∙ ap (λ (z : List MadeOutput). c.loop-output.again.items ++ made_again c.loop-output.seen.keys z) (outputs_next t outputs i c.output-item.result rest (omega arith) c.output-item.is)
    ∙ c.in_ok-see.ensures next

pub returns : goal.returns
returns c = λ rest.
    c.loop-output.invariant rest
    ∙ ap (λ z. c.loop-output.again.items ++ made_again c.loop-output.seen.keys (made_by c.args.label.now z ++ rest)) (drop_all c.loop-output.output-index c.args.outputs.now (omega arith))
