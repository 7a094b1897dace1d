use Rattle.std.proofs.Common.{◌≡◌, ◌||◌, ℕ, List, ltb, map, refl, ap, ◌∙◌}
use Rattle.std.proofs.lemmas.List.{take_all}
use Rattle.gn_closure.specs.Computed.{is_load, is_setup, load_limit, setup_limit, is_too_large}
use Rattle.gn_closure.specs.Ground.{Step}
use Rattle.gn_graph.specs.Needs.{home}
use Rattle.gn_graph.specs.Counts.{count_of}
use Rattle.gn_graph.specs.Graphs.{Answers, told_by}
use Rattle.gn_graph.specs.Replies.{units_in, all_rules}
use Rattle.gn_graph.proofs.Counting.{limits_found}
use Rattle.gn_graph.proofs.Reached.{graph_whole}
use Rattle.gn_graph.proofs.graph.Graph.is_too_large.Goals as goal

pub returns : goal.returns
returns c =
    let found : List Step = c.self.inside.closure.found in
    let rs = map told_by c.self.inside.told.items in
    let n : ℕ = c.self.inside.counts.seen in
    let l : c.self.inside.counts.loads ≡ count_of is_load found = c.self.invariant.counts.loads ∙ ap (count_of is_load) (take_all n found c.self.invariant.all) in
    let s : c.self.inside.counts.setups ≡ count_of is_setup found = c.self.invariant.counts.setups ∙ ap (count_of is_setup) (take_all n found c.self.invariant.all) in
    c.exceed.ensures ∙ (λ i. ltb load_limit (l i) || ltb setup_limit (s i))
    ∙ limits_found (units_in rs) found c.self.invariant.whole.once
    (graph_whole found (all_rules rs) rs c.self.invariant.single refl c.self.invariant.whole.whole)
    ∙ ap (λ (z : Answers). is_too_large home (units_in z.replies)) c.self.view_is
