use Rattle.std.proofs.Common.{◌≡◌, ℕ, List, Some, slice_get, option_map, length, sym, ap, ◌∙◌}
use Rattle.std.proofs.lemmas.Option.{slice_get-map}
use Rattle.gn_graph.specs.declared.fact.Fact.{Fact}
use Rattle.gn_graph.specs.Facts.{step_of}
use Rattle.gn_graph.specs.Numbers.{Known, fact_of}
use Rattle.gn_graph.specs.Kept.{state_of}
use Rattle.gn_graph.specs.States.{State}
use Rattle.gn_basics.proofs.Results.{shown}
use Rattle.gn_graph.proofs.Has.{index_has}
use Rattle.gn_graph.proofs.States.{found_at}
use Rattle.gn_graph.proofs.closure.Closure.found.Goals as goal

pub returns-in-Some : goal.returns-in-Some
returns-in-Some c =
    let a : State = state_of c.self.inside.parts in
    let keys : List Fact = c.self.inside.parts.facts.keys in
    let n : ℕ = c.args.n in
    let f : ℕ = c.in-Some.fact in
    let at : slice_get a.found n ≡ Some f = sym c.get.ensures ∙ c.in-Some.is in
    record {
      fact = shown step_of c.get_index.result ∙ ap (option_map step_of) c.get_index.ensures.key ∙ sym (slice_get-map step_of keys f)
          ∙ found_at a (length a.found) c.self.invariant f (index_has a.found n f at) ∙ sym (slice_get-map (fact_of a.table) a.found n ∙ ap (option_map (fact_of a.table)) at)
          ∙ ap (λ (z : Known). slice_get z.found n) c.self.view_is;
    }
