use Rattle.std.proofs.Common.{◌≡◌, ℕ, ◌+◌, ◌<◌, ◌≤◌, ◌^◌, List, Option, Some, None, IfSome, Bool, true, false, cond, length, ap, sym, subst, ◌∙◌, arith, nat_cmp, nat_eq, count_by}
use Rattle.std.specs.List.{IsDistinct}
use Rattle.std.specs.BTreeMap.{get}
use Rattle.gn_chains.specs.Numbers.{among, list_at, lists_in}
use Rattle.gn_chains.specs.Counts.{numbers, raised}
use Rattle.gn_chains.proofs.Numbering.{list_here}
use Rattle.gn_chains.proofs.Tallies.{count_more, count_small, raised_by}
use Rattle.gn_chains.proofs.counts.count_dependents.Goals as goal

room_by : (b : Bool) (n i m : ℕ) → n ≤ i → i < m → m < 2 ^ 64 → IfSome (cond b (Some n) None) (λ k. k + 1 < 2 ^ 64)
room_by true n i m a l k = omega (arith, a, l, k)
room_by false n i m a l k = tt

pub raise-requires-clause-once : goal.raise-requires-clause-once
raise-requires-clause-once c =
    let here : list_at (lists_in c.args.edges.now) c.loop-list.list-index ≡ c.list-item.result.items = list_here c.args.edges.now c.loop-list.list-index c.list-item.result (omega arith) c.list-item.is in
    subst (λ (z : List ℕ). IsDistinct nat_eq z) (here ∙ sym c.deref.ensures.value) (c.requires.once c.loop-list.list-index)

pub raise-requires-clause-room : goal.raise-requires-clause-room
raise-requires-clause-room c = λ q.
    let p : ℕ → Bool = λ z. among (list_at (lists_in c.args.edges.now) z) q in
    let i = c.loop-list.list-index in
    subst (λ (o : Option ℕ). IfSome o (λ k. k + 1 < 2 ^ 64)) (sym (c.loop-list.invariant q))
    (room_by (among (numbers (length c.args.edges.now)) q) (count_by p (numbers i)) i (length c.args.edges.now) (count_small p i) (omega arith) (omega arith))

pub loop-list-preserved : goal.loop-list-preserved
loop-list-preserved c = λ q.
    let p : ℕ → Bool = λ z. among (list_at (lists_in c.args.edges.now) z) q in
    let i = c.loop-list.list-index in
    let here : list_at (lists_in c.args.edges.now) i ≡ c.list-item.result.items = list_here c.args.edges.now i c.list-item.result (omega arith) c.list-item.is in
    let list : among c.deref.result.now q ≡ p i = ap (λ (z : List ℕ). among z q) (c.deref.ensures.value ∙ sym here) in
    c.raise.ensures q ∙ ap (λ b. raised b (get nat_cmp c.loop-list.counts q)) list ∙ ap (raised (p i)) (c.loop-list.invariant q)
    ∙ raised_by (among (numbers (length c.args.edges.now)) q) (p i) (count_by p (numbers i)) (count_by p (numbers (i + 1))) (count_more p i)

pub returns : goal.returns
returns c = λ q.
    let p : ℕ → Bool = λ z. among (list_at (lists_in c.args.edges.now) z) q in
    let n : c.loop-list.list-index ≡ length c.args.edges.now = omega arith in
    c.loop-list.invariant q ∙ ap (λ k. cond {A = Option ℕ} (among (numbers (length c.args.edges.now)) q) (Some (count_by p (numbers k))) None) n
