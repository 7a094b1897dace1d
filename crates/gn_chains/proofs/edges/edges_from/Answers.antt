use Rattle.std.proofs.Common.{◌≡◌, ℕ, List, ◌||◌, slice_get, ap, ◌∙◌}
use Rattle.std.proofs.lemmas.Result.{IfOk-weaker}
use Rattle.gn_labels.specs.declared.label.Label.{Label}
use Rattle.gn_chains.specs.Numbers.{among, has_some}
use Rattle.gn_chains.specs.Reached.{shown, near_of}
use Rattle.gn_chains.proofs.edges.edges_from.Goals as goal

pub returns-clause-numbers : goal.returns-clause-numbers
returns-clause-numbers c =
    let near : List Label = near_of (shown c.args.node.now) in
    IfOk-weaker c.into_numbers.result (λ v. v.items ≡ c.add_near.new.out.keys) (λ v. (n : ℕ) → among v.items n ≡ has_some near (slice_get c.args.walked.now n))
    (λ v e n.
    ap (λ (z : List ℕ). among z n) e ∙ c.in_default.ensures n ∙ ap (λ (z : List ℕ). among z n || has_some near (slice_get c.args.walked.now n)) c.new-out.ensures.empty) c.into_numbers.ensures.numbers
