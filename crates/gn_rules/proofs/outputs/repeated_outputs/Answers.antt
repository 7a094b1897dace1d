use Rattle.std.proofs.Common.{◌≡◌, ◌++◌, ◌+◌, ℕ, List, [], drop, ap, sym, ◌∙◌, arith, append-nil}
use Rattle.std.proofs.lemmas.List.{drop_all}
use Rattle.gn_labels.specs.declared.label.Label.{Label}
use Rattle.gn_rules.specs.declared.outputs.MadeOutput.{MadeOutput}
use Rattle.gn_rules.specs.Outputs.{made_by, all_made, made_again}
use Rattle.gn_rules.proofs.Repeats.{nothing_seen, next_target, nothing_left}
use Rattle.gn_rules.proofs.outputs.repeated_outputs.Goals as goal

pub loop-label-init : goal.loop-label-init
loop-label-init g c = nothing_seen c.new-again.result.items c.new-seen.result.keys (all_made (g.G.Outputs.made c.args.graph.now) (g.G.Outputs.generated c.args.graph.now)) c.new-again.ensures.items c.new-seen.ensures.empty

pub loop-label-preserved : goal.loop-label-preserved
loop-label-preserved g c =
    let made = g.G.Outputs.made c.args.graph.now in
    let ts = g.G.Outputs.generated c.args.graph.now in
    let i = c.loop-label.label-index in
    let x = c.label-item.result in
    c.loop-label.invariant
    ∙ next_target made ts c.generated-label-items.result.now i x c.made.result.now c.loop-label.again.items c.loop-label.seen.keys c.generated-label-items.ensures (omega arith) c.label-item.is c.made.ensures
    ∙ c.in_ok-see_all.ensures (all_made made (drop (i + 1) ts))

pub returns : goal.returns
returns g c =
    nothing_left (g.G.Outputs.made c.args.graph.now) (g.G.Outputs.generated c.args.graph.now) c.generated-label-items.result.now c.loop-label.label-index c.loop-label.again.items c.loop-label.seen.keys
    c.generated-label-items.ensures (omega arith) c.loop-label.invariant
