use Rattle.std.proofs.Common.{ap, sym, ◌∙◌}
use Rattle.std.proofs.lemmas.Result.{on_ok_weaker}
use Rattle.gn_rows.specs.declared.variable.Variable.TheVariants.{PublicDeps, Deps}
use Rattle.gn_dependencies.specs.Shape.{Shape}
use Rattle.gn_dependencies.specs.Inherited.{walks}
use Rattle.gn_chains.proofs.Reaching.{same_facts, more_there, more_not, more_next}
use Rattle.gn_chains.proofs.reached.meet.Goals as goal

pub push-requires : goal.push-requires
push-requires g c = sym c.has.ensures ∙ c.if-has.false

pub returns-then-has : goal.returns-then-has
returns-then-has g c = more_there (g.G.Graph.shape c.args.graph.now) c.args.label.now c.args.out.now (sym c.has.ensures ∙ c.if-has.true)

pub returns-then-walks : goal.returns-then-walks
returns-then-walks g c =
    let s : Shape = g.G.Graph.shape c.args.graph.now in
    let x = c.args.label.now in
    let n = c.node-node.result in
    let known = same_facts n.kind (s.kind x) n.public.now (s.lists x PublicDeps) n.private.now (s.lists x Deps) c.node-node.ensures.kind c.node-node.ensures.public c.node-node.ensures.private in
    on_ok_weaker c.push.result (λ m. more_next s x c.args.out.now c.push.new.out (sym (c.walks.ensures ∙ ap walks c.node-node.ensures.kind) ∙ c.if-walks.true) (sym c.has.ensures ∙ c.if-has.false) (m s known)) c.push.ensures

pub returns : goal.returns
returns g c =
    let s : Shape = g.G.Graph.shape c.args.graph.now in
    more_not s c.args.label.now c.args.out.now (sym (c.walks.ensures ∙ ap walks c.node-node.ensures.kind) ∙ c.if-walks.false)
