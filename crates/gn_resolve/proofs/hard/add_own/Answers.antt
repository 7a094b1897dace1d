use Rattle.std.proofs.Common.{◌∙◌, sym, ap}
use Rattle.std.proofs.lemmas.Result.{on_ok_weaker}
use Rattle.gn_labels.specs.declared.label.Label.{Label}
use Rattle.gn_labelled.specs.Graphs.{shape_of}
use Rattle.gn_resolved_meant.specs.Reached.{is_hard}
use Rattle.gn_resolve.proofs.HardLists.{one_more, none_more}
use Rattle.gn_resolve.proofs.hard.add_own.Goals as goal

pub returns-then-is_hard : goal.returns-then-is_hard
returns-then-is_hard c =
    on_ok_weaker c.add.result
    (one_more (λ (q : Label). is_hard ((shape_of c.args.graph.now.items).kind q)) c.args.out.now c.add.new.self c.args.label.now (sym (c.is_hard.ensures ∙ ap is_hard c.kind.ensures) ∙ c.if-is_hard.true))
    c.add.ensures

pub returns : goal.returns
returns c = none_more (λ (q : Label). is_hard ((shape_of c.args.graph.now.items).kind q)) c.args.out.now c.args.label.now (sym (c.is_hard.ensures ∙ ap is_hard c.kind.ensures) ∙ c.if-is_hard.false)
