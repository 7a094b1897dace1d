use Rattle.std.proofs.Common.{[], OnOk, cond, sym, subst, ◌∙◌}
use Rattle.gn_dependencies.specs.Shape.{Shape}
use Rattle.gn_chains.specs.Reached.{IsMore, shown, near_of}
use Rattle.gn_chains.proofs.Reaching.{none_more}
use Rattle.gn_chains.proofs.reached.meet_behind.Goals as goal

pub returns-then-opens : goal.returns-then-opens
returns-then-opens g c =
    let s : Shape = g.G.Graph.shape c.args.graph.now in
    subst (λ b. OnOk c.meet_both.result (IsMore s (cond b (near_of (shown c.args.node)) []) c.args.out.now c.meet_both.new.out)) (sym c.if-opens.true ∙ c.opens.ensures) c.meet_both.ensures

pub returns : goal.returns
returns g c =
    let s : Shape = g.G.Graph.shape c.args.graph.now in
    subst (λ b. IsMore s (cond b (near_of (shown c.args.node)) []) c.args.out.now c.args.out.now) (sym c.if-opens.false ∙ c.opens.ensures) (none_more s c.args.out.now)
