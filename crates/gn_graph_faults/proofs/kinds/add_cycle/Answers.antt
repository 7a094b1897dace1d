use Rattle.std.proofs.Common.{Vec, List, Option, ◌++◌, ◌∷◌, [], option_map, refl, ◌∙◌, ap, subst}
use Rattle.std.specs.declared.alloc.Global.{Global}
use Rattle.std.proofs.lemmas.Result.{on_ok_weaker}
use Rattle.gn_labels.specs.declared.label.Label.{Label}
use Rattle.gn_faults.specs.declared.code.Code.TheVariants.{Cycle}
use Rattle.gn_dependencies.specs.Shape.{all_deps}
use Rattle.gn_cycles.specs.Shortest.{IsShortestCycle}
use Rattle.gn_graph_faults.specs.Faults.{Facts, facts_of, fault_told}
use Rattle.gn_graph_faults.proofs.ToldMore.{no_cycle, a_cycle}
use Rattle.gn_graph_faults.proofs.kinds.add_cycle.Goals as goal

pub returns-in-None : goal.returns-in-None
returns-in-None g c =
    let facts : Facts = facts_of (g.G.Graph.default c.args.graph.now) (g.G.Graph.shape c.args.graph.now) (g.G.Marks.visibility c.args.graph.now) (g.G.Marks.testonly c.args.graph.now) (g.G.Marks.forbidden c.args.graph.now)
    (g.G.Places.places c.args.graph.now) in
    let IsCycle : Option (Vec Label Global) → Type 0 = λ found. IsShortestCycle facts.shape c.args.target.now (option_map (λ labels. labels.items) found) in
    no_cycle c.codes_have_different_numbers.ensures facts c.args.target.now c.args.out.now.items c.args.out.now.items (subst IsCycle c.in-None.is c.in_ok-cycle_of.ensures) refl

pub returns-in-Some : goal.returns-in-Some
returns-in-Some g c =
    let facts : Facts = facts_of (g.G.Graph.default c.args.graph.now) (g.G.Graph.shape c.args.graph.now) (g.G.Marks.visibility c.args.graph.now) (g.G.Marks.testonly c.args.graph.now) (g.G.Marks.forbidden c.args.graph.now)
    (g.G.Places.places c.args.graph.now) in
    let t = c.args.target.now in
    let out = c.args.out.now.items in
    let IsCycle : Option (Vec Label Global) → Type 0 = λ found. IsShortestCycle facts.shape t (option_map (λ labels. labels.items) found) in
    on_ok_weaker c.add_fault.result
    (λ e. a_cycle c.codes_have_different_numbers.ensures facts t (λ p q. c.there_is_one_shortest_path.ensures (all_deps facts.shape) t t p q) c.in-Some.labels.items
    (subst IsCycle c.in-Some.is c.in_ok-cycle_of.ensures) out c.add_fault.new.out.items
    (e ∙ ap (λ (z : List Label). out ++ fault_told facts.default (facts.places t) t Cycle z ∷ []) c.as_slice.ensures.value))
    c.add_fault.ensures
