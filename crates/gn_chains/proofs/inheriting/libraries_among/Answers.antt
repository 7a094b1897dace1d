use Rattle.std.proofs.Common.{◌≡◌, ℕ, suc, ◌<◌, List, Bool, length, true, map, filter, slice_index_or, Vec, ap, sym, subst, ◌∙◌, refl, nat_eq, eqb-true, eq-eqb}
use Rattle.std.specs.declared.alloc.Global.{Global}
use Rattle.std.specs.List.{IsDistinct}
use Rattle.std.proofs.lemmas.Result.{IfOk-weaker}
use Rattle.gn_labels.specs.declared.label.Label.{Label}
use Rattle.gn_dependencies.specs.Lists.{same_label, has}
use Rattle.gn_dependencies.specs.Shape.{Shape}
use Rattle.gn_dependencies.specs.Order.{IsOrderOf}
use Rattle.gn_dependencies.specs.Inherited.{is_library, Walked, AreLibraries}
use Rattle.gn_dependencies.proofs.Same.{own, same}
use Rattle.gn_dependencies.proofs.Merge.{common}
use Rattle.gn_dependencies.proofs.OrderLaws.{has_at, inside}
use Rattle.std.proofs.lemmas.Option.{slice_get-get_or}
use Rattle.gn_chains.specs.Numbers.{among, list_at, lists_in, number_before, AreNumbered, AreEdges, NumbersEnd}
use Rattle.gn_chains.specs.Counts.{numbers}
use Rattle.gn_chains.specs.Walked.{AreWalked}
use Rattle.gn_chains.specs.declared.graph.Node.{Node}
use Rattle.gn_chains.specs.Reached.{AreNodes}
use Rattle.gn_chains.proofs.Reaching.{as_many}
use Rattle.gn_chains.proofs.Among.{number_below}
use Rattle.gn_chains.proofs.WalkState.{walked_ends}
use Rattle.gn_chains.proofs.Transfer.{labels_ordered, numbers_end}
use Rattle.gn_chains.proofs.inheriting.libraries_among.Goals as goal

order_of : (d d' : List ℕ) (z ws : List Label) (v es : List (Vec ℕ Global)) (ns : List ℕ) → d ≡ d' → z ≡ ws → v ≡ es
    → IsOrderOf nat_eq (list_at (lists_in v)) (number_before d z) (λ q. among (numbers (length z)) q ≡ true) ns
    → IsOrderOf nat_eq (list_at (lists_in es)) (number_before d' ws) (λ q. among (numbers (length ws)) q ≡ true) ns
order_of d d' z ws v es ns e f h o =
    subst (λ (x : List ℕ). IsOrderOf nat_eq (list_at (lists_in es)) (number_before x ws) (λ q. among (numbers (length ws)) q ≡ true) ns) e
    (subst (λ (x : List Label). IsOrderOf nat_eq (list_at (lists_in es)) (number_before d x) (λ q. among (numbers (length x)) q ≡ true) ns) f
    (subst (λ (x : List (Vec ℕ Global)). IsOrderOf nat_eq (list_at (lists_in x)) (number_before d z) (λ q. among (numbers (length z)) q ≡ true) ns) h o))

edges_known : (g : Shape) (ws : List Label) (nodes lent : List Node) (lists : List (List ℕ)) → lent ≡ nodes → AreNodes g ws nodes → (AreNodes g ws lent → AreEdges g ws lists) → AreEdges g ws lists
edges_known g ws nodes lent lists e h f = f (subst (λ (z : List Node). AreNodes g ws z) (sym e) h)

abbrev Ends : List Label → List (Vec ℕ Global) → Type 0
Ends z v = (k : ℕ) × ((q : ℕ) → q < length z → NumbersEnd (list_at (lists_in v)) k q)

nat_same : (a b : ℕ) → nat_eq a b ≡ true → a ≡ b
nat_same a b h = eqb-true a b h

nat_own : (a : ℕ) → nat_eq a a ≡ true
nat_own a = eq-eqb a a refl

pub order-ended-requires-clause-numbered : goal.order-ended-requires-clause-numbered
order-ended-requires-clause-numbered g c =
    let s : Shape = g.G.Graph.shape c.args.graph.now in
    let ws = c.args.reached.now.labels in
    let edges = edges_known s ws c.args.reached.now.nodes.items c.as_slice-nodes.result.now (lists_in c.in_ok-edges.edges.items) c.as_slice-nodes.ensures.value c.requires.2.nodes (c.in_ok-edges.ensures s) in
    subst (λ (z : List Label). AreNumbered (length z) (lists_in c.deref.result.now)) (sym c.as_slice-walked.ensures.labels)
    (subst (λ (v : List (Vec ℕ Global)). AreNumbered (length ws) (lists_in v)) (sym c.deref.ensures.value) edges.numbered)

pub order-ended-requires-clause-ends : goal.order-ended-requires-clause-ends
order-ended-requires-clause-ends g c =
    let s : Shape = g.G.Graph.shape c.args.graph.now in
    let t = c.requires.0 in
    let ws = c.args.reached.now.labels in
    let k = common s (g.G.Graph.records c.args.graph.now) t c.requires.1 in
    let to : (q : Label) → has ws q ≡ true → Walked s t q = λ q h. (c.requires.2.walked q).0 h in
    let back : (q : Label) → Walked s t q → has ws q ≡ true = λ q w. (c.requires.2.walked q).1 w in
    let once : IsDistinct same_label ws = c.as_slice-walked.ensures.once in
    let edges = edges_known s ws c.args.reached.now.nodes.items c.as_slice-nodes.result.now (lists_in c.in_ok-edges.edges.items) c.as_slice-nodes.ensures.value c.requires.2.nodes (c.in_ok-edges.ensures s) in
    let ends : Ends ws c.in_ok-edges.edges.items = (
      suc k.depth,
      λ q l.
          numbers_end ws once t (g.G.Graph.default c.args.graph.now) s (Walked s t) to back (lists_in c.in_ok-edges.edges.items) edges (suc k.depth) q l
          (walked_ends s (suc k.depth) t k.ends (slice_index_or ws q t) (to (slice_index_or ws q t) (has_at same_label own same ws q (slice_index_or ws q t) (slice_get-get_or ws q t l)))),
    ) in
    subst (λ (z : List Label). Ends z c.deref.result.now) (sym c.as_slice-walked.ensures.labels) (subst (λ (v : List (Vec ℕ Global)). Ends ws v) (sym c.deref.ensures.value) ends)

pub libraries_at-labels-requires-clause-below : goal.libraries_at-labels-requires-clause-below
libraries_at-labels-requires-clause-below g c = λ n h.
    let z = c.as_slice-walked.result.now in
    let o = c.in_ok-order.ensures in
    let i : among (numbers (length z)) n ≡ true
    = inside nat_eq nat_own nat_same (list_at (lists_in c.deref.result.now)) (number_before c.default_toolchain.result.now z) (λ q. among (numbers (length z)) q ≡ true) c.in_ok-order.order.items o n
    (ap (λ (x : List ℕ). among x n) (sym c.deref-2.ensures.value) ∙ h) in
    number_below (length z) n i

pub libraries_at-labels-requires-clause-sized : goal.libraries_at-labels-requires-clause-sized
libraries_at-labels-requires-clause-sized g c =
    let s : Shape = g.G.Graph.shape c.args.graph.now in
    ap length c.as_slice-nodes.ensures.value ∙ as_many s c.args.reached.now.labels c.args.reached.now.nodes.items c.requires.2.nodes ∙ ap length (sym c.as_slice-walked.ensures.labels)

pub returns : goal.returns
returns g c =
    let s : Shape = g.G.Graph.shape c.args.graph.now in
    let default = g.G.Graph.default c.args.graph.now in
    let ws = c.args.reached.now.labels in
    let once : IsDistinct same_label ws = c.as_slice-walked.ensures.once in
    let edges = c.in_ok-edges.edges.items in
    let ns = c.in_ok-order.order.items in
    let p : Label → Bool = λ q. is_library (s.kind q) in
    let known = edges_known s ws c.args.reached.now.nodes.items c.as_slice-nodes.result.now (lists_in edges) c.as_slice-nodes.ensures.value c.requires.2.nodes (c.in_ok-edges.ensures s) in
    let nodes : AreNodes s c.as_slice-walked.result.now c.as_slice-nodes.result.now
    = subst (λ (z : List Label). AreNodes s z c.as_slice-nodes.result.now) (sym c.as_slice-walked.ensures.labels) (subst (λ (z : List Node). AreNodes s ws z) (sym c.as_slice-nodes.ensures.value) c.requires.2.nodes) in
    let o : IsOrderOf nat_eq (list_at (lists_in edges)) (number_before default ws) (λ q. among (numbers (length ws)) q ≡ true) ns
    = order_of c.default_toolchain.result.now default c.as_slice-walked.result.now ws c.deref.result.now edges ns c.default_toolchain.ensures c.as_slice-walked.ensures.labels c.deref.ensures.value c.in_ok-order.ensures in
    IfOk-weaker c.libraries_at-labels.result
    (λ v. (g : Shape) → AreNodes g c.as_slice-walked.result.now c.as_slice-nodes.result.now → (d : Label)
    → v.items ≡ filter (λ q. is_library (g.kind q)) (map (λ n. slice_index_or c.as_slice-walked.result.now n d) c.deref-2.result.now))
    (λ v. (t : Label) → AreWalked s t ws → AreLibraries default s t v.items)
    (λ v e t met.
    let f : ℕ → Label = λ n. slice_index_or ws n t in
    let to : (q : Label) → has ws q ≡ true → Walked s t q = λ q h. (met q).0 h in
    let back : (q : Label) → Walked s t q → has ws q ≡ true = λ q w. (met q).1 w in (
      map f ns,
      labels_ordered ws once t default s (Walked s t) to back (lists_in edges) known ns o,
      e s nodes t ∙ ap (λ (z : List Label). filter p (map (λ n. slice_index_or z n t) c.deref-2.result.now)) c.as_slice-walked.ensures.labels ∙ ap (λ (z : List ℕ). filter p (map f z)) c.deref-2.ensures.value,
    )) c.libraries_at-labels.ensures
