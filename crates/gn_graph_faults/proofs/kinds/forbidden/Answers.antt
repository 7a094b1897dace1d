use Rattle.std.proofs.Common.{◌≡◌, ◌∷◌, [], Option, subst}
use Rattle.std.specs.declared.alloc.Global.{Global}
use Rattle.std.specs.Prelude.{Vec}
use Rattle.std.proofs.lemmas.Result.{IfOk-weaker}
use Rattle.gn_labels.specs.declared.label.Label.{Label}
use Rattle.gn_faults.specs.declared.code.Code.TheVariants.{AssertNoDeps}
use Rattle.gn_rules.specs.Rules.{IsForbiddenTarget}
use Rattle.gn_graph_faults.specs.Faults.{Facts, facts_of}
use Rattle.gn_graph_faults.specs.Told.{AreFaulty}
use Rattle.gn_graph_faults.proofs.Sentences.{forbidden_faulty, nothing_faulty}
use Rattle.gn_graph_faults.proofs.kinds.forbidden.Goals as goal

pub returns-in-None : goal.returns-in-None
returns-in-None g c =
    let facts : Facts = facts_of (g.G.Graph.default c.args.graph.now) (g.G.Graph.shape c.args.graph.now) (g.G.Marks.visibility c.args.graph.now) (g.G.Marks.testonly c.args.graph.now) (g.G.Marks.forbidden c.args.graph.now)
    (g.G.Places.places c.args.graph.now) in
    let IsForbidden : Option Label → Type 0 = IsForbiddenTarget facts.default facts.shape facts.forbidden c.args.target.now in
    nothing_faulty facts c.args.target.now _ c.new.ensures.items (subst IsForbidden c.in-None.is c.in_ok-forbidden_target.ensures)

pub returns-in-Some : goal.returns-in-Some
returns-in-Some g c =
    let facts : Facts = facts_of (g.G.Graph.default c.args.graph.now) (g.G.Graph.shape c.args.graph.now) (g.G.Marks.visibility c.args.graph.now) (g.G.Marks.testonly c.args.graph.now) (g.G.Marks.forbidden c.args.graph.now)
    (g.G.Places.places c.args.graph.now) in
    let t = c.args.target.now in
    let IsForbidden : Option Label → Type 0 = IsForbiddenTarget facts.default facts.shape facts.forbidden t in
    IfOk-weaker c.listed.result (λ (labels : Vec Label Global). labels.items ≡ c.in-Some.label ∷ []) (λ labels. AreFaulty facts t AssertNoDeps labels.items)
    (λ labels e. forbidden_faulty facts t c.in-Some.label labels.items c.label_order_has_no_ties.ensures e (subst IsForbidden c.in-Some.is c.in_ok-forbidden_target.ensures)) c.listed.ensures
