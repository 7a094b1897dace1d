use Rattle.std.proofs.Common.{◌≡◌, ℕ, ◌+◌, List, [], ◌∷◌, ◌++◌, length, Some, slice_get, Vec, ap, sym, subst, ◌∙◌, refl, arith}
use Rattle.std.specs.declared.alloc.Global.{Global}
use Rattle.std.proofs.lemmas.List.{map-append}
use Rattle.std.proofs.lemmas.Option.{slice_get_read}
use Rattle.gn_dependencies.proofs.OrderLaws.{at_some}
use Rattle.gn_chains.specs.Numbers.{has_some, lists_in}
use Rattle.gn_chains.specs.Reached.{near_of}
use Rattle.gn_chains.proofs.Numbering.{EdgesBefore, no_edges, edges_more, edges_all}
use Rattle.gn_chains.proofs.Reaching.{as_many, known_at}
use Rattle.gn_chains.proofs.edges.edges.Goals as goal

pub loop-node-init : goal.loop-node-init
loop-node-init c = λ g h. subst (λ (z : List (Vec ℕ Global)). EdgesBefore g c.args.walked.now 0 (lists_in z)) (sym c.in_ok-edges.ensures.items) (no_edges g c.args.walked.now)

pub loop-node-preserved : goal.loop-node-preserved
loop-node-preserved c = λ g h.
    let ws = c.args.walked.now in
    let nodes = c.args.nodes.now in
    let i = c.loop-node.node-index in
    let x = c.node-item.result in
    let many : length nodes ≡ length ws = as_many g ws nodes h in
    let here : slice_get nodes i ≡ Some x = slice_get_read nodes (length nodes) i x refl (omega arith) c.node-item.is in
    let z = at_some ws i (omega (arith, many)) in
    let e : lists_in c.push.new.self.items ≡ lists_in c.loop-node.edges.items ++ c.in_ok-list.list.items ∷ []
    = ap lists_in c.in_ok-push.ensures.items ∙ map-append (λ (v : Vec ℕ Global). v.items) c.loop-node.edges.items (c.in_ok-list.list ∷ []) in
    subst (λ (y : List (List ℕ)). EdgesBefore g ws (i + 1) y) (sym e)
    (edges_more g ws i (lists_in c.loop-node.edges.items) z.0 c.in_ok-list.list.items (c.loop-node.invariant g h) z.1 c.in_ok-list.ensures.once
    (λ d. c.in_ok-list.ensures.numbers d ∙ ap (λ f. has_some (near_of f) (slice_get ws d)) (known_at g ws nodes i z.0 x h z.1 here)))

pub returns : goal.returns
returns c = λ g h.
    let ws = c.args.walked.now in
    let n : c.loop-node.node-index ≡ length c.args.nodes.now = omega arith in
    edges_all g ws (lists_in c.loop-node.edges.items)
    (subst (λ (k : ℕ). EdgesBefore g ws k (lists_in c.loop-node.edges.items)) (n ∙ as_many g ws c.args.nodes.now h) (c.loop-node.invariant g h))
