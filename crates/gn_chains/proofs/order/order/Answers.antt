use Rattle.std.proofs.Common.{◌≡◌, ℕ, ◌+◌, ◌≤◌, List, [], ◌∷◌, ◌++◌, Option, Some, Vec, true, false, cond, ◌||◌, ◌&&◌, length, nat_cmp, ap, sym, subst, ◌∙◌, refl, arith, nat_eq, is_eq}
use Rattle.std.specs.declared.alloc.Global.{Global}
use Rattle.std.specs.List.{list_any, IsDistinct}
use Rattle.std.specs.BTreeMap.{get}
use Rattle.std.specs.BTreeMap.{is_at}
use Rattle.std.specs.BTreeSet.{BTreeSet, contains}
use Rattle.std.specs.Ordering.{is_gt}
use Rattle.std.specs.Cmp.{nat_eq_equiv}
use Rattle.std.proofs.lemmas.List.{length_push, length-map}
use Rattle.std.proofs.lemmas.Map.Made.{length-le_from_is_member}
use Rattle.gn_labels.specs.declared.label.Label.{Label}
use Rattle.gn_chains.specs.declared.candidates.Candidate.{Candidate}
use Rattle.gn_chains.specs.contracts.candidates.CandidateOrd.TheImpl.{cmp-value}
use Rattle.gn_chains.specs.Numbers.{among, list_at, lists_in, number_before, AreNumbered}
use Rattle.gn_chains.specs.Counts.{numbers, count_at, lessened, is_zero}
use Rattle.gn_chains.specs.Candidates.{candidate_at, AreCandidates, IsFirst, IsOffered, IsTaken}
use Rattle.gn_chains.proofs.Among.{number_below, numbers_once, numbers-length}
use Rattle.gn_chains.proofs.Offers.{InLabelOrder, one_candidate, in_order, first_number}
use Rattle.gn_chains.proofs.Placing.{OrderState, ReadyFacts, order_start, order_step, order_done, ready_facts, some_open}
use Rattle.gn_chains.proofs.order.order.Goals as goal

-- what is known of the candidate that was taken
record Taken (default : List ℕ) (ws : List Label) (old new : BTreeSet Candidate) (n : ℕ) : Type 0 where
  member : contains cmp-value.it old (candidate_at default ws n) ≡ true
  least : (q : ℕ) → contains cmp-value.it old (candidate_at default ws q) ≡ true → number_before default ws q n ≡ false
  rest : (q : ℕ) → contains cmp-value.it new (candidate_at default ws q) ≡ cond (nat_eq q n) false (contains cmp-value.it old (candidate_at default ws q))
  all : AreCandidates default ws new.keys

taken : InLabelOrder → (default : List ℕ) (ws : List Label) (old new : BTreeSet Candidate) (n : ℕ) → AreCandidates default ws old.keys
    → (c : Candidate) → c.number ≡ n → IsFirst cmp-value.it old new c → Taken default ws old new n
taken ordered default ws old new n h c e f =
    let a = first_number default ws old new c h f.keys in
    let is : c ≡ candidate_at default ws n = a.0 ∙ ap (candidate_at default ws) e in record {
      member = ap (contains cmp-value.it old) (sym is) ∙ f.member;
      least = λ q m. in_order ordered default ws n q (ap (λ (z : Candidate). is_gt (cmp-value.it z (candidate_at default ws q))) (sym is) ∙ f.least (candidate_at default ws q) m);
      rest = λ q. f.rest (candidate_at default ws q)
          ∙ ap (λ (z : Candidate). cond (is_eq (cmp-value.it z (candidate_at default ws q))) false (contains cmp-value.it old (candidate_at default ws q))) is
          ∙ ap (λ b. cond b false (contains cmp-value.it old (candidate_at default ws q))) (one_candidate ordered default ws n q);
      all = a.1;
    }

module _ (default : List ℕ) (ws : List Label) (next : ℕ → List ℕ) where
  abbrev State : List ℕ → (ℕ → Option ℕ) → BTreeSet Candidate → Type 0
  State out counts s = OrderState next (number_before default ws) (numbers (length ws)) out counts (λ q. contains cmp-value.it s (candidate_at default ws q))

  none_there : (s : BTreeSet Candidate) → s.keys ≡ [] → (q : Candidate) → contains cmp-value.it s q ≡ false
  none_there s e q = by s.keys e
    where
      by : (ks : List Candidate) → ks ≡ [] → list_any (is_at (cmp-value.it q)) ks ≡ false
      by [] e = refl
      by (k ∷ ks) e = absurd (cc e)

  start : (out : List ℕ) (counts : ℕ → Option ℕ) (first s : BTreeSet Candidate) → out ≡ [] → first.keys ≡ [] → ((q : ℕ) → counts q ≡ count_at next (numbers (length ws)) [] q)
      → IsOffered cmp-value.it default ws (λ q. among (numbers (length ws)) q && is_zero (counts q)) first s → State out counts s
  start out counts first s e f h o = subst (λ (z : List ℕ). State z counts s) (sym e)
      (order_start next (number_before default ws) (numbers (length ws)) counts (λ q. contains cmp-value.it s (candidate_at default ws q)) h
      (λ q. o.has q ∙ ap (λ b. b || (among (numbers (length ws)) q && is_zero (counts q))) (none_there first f (candidate_at default ws q))))

  ready : (out : List ℕ) (counts : ℕ → Option ℕ) (old new : BTreeSet Candidate) (n : ℕ) → State out counts old → Taken default ws old new n → ReadyFacts next (numbers (length ws)) out n
  ready out counts old new n s t = ready_facts next (number_before default ws) (numbers (length ws)) out counts (λ q. contains cmp-value.it old (candidate_at default ws q)) n s t.member

  step : (out : List ℕ) (counts counts' : ℕ → Option ℕ) (old mid new : BTreeSet Candidate) (n : ℕ) → State out counts old → Taken default ws old mid n
      → ((q : ℕ) → counts' q ≡ lessened (among (next n) q) (counts q)) → IsOffered cmp-value.it default ws (λ q. among (next n) q && is_zero (counts' q)) mid new
      → State (out ++ n ∷ []) counts' new
  step out counts counts' old mid new n s t h o =
      order_step next (number_before default ws) (numbers (length ws)) out counts counts' (λ q. contains cmp-value.it old (candidate_at default ws q)) (λ q. contains cmp-value.it new (candidate_at default ws q)) n
      (numbers_once (length ws)) s t.member t.least h
      (λ q. o.has q ∙ ap (λ b. b || (among (next n) q && is_zero (counts' q))) (t.rest q))

facts : InLabelOrder → (default : List ℕ) (ws : List Label) (next : ℕ → List ℕ) (out : List ℕ) (counts : ℕ → Option ℕ) (old new : BTreeSet Candidate) (n : ℕ) → State default ws next out counts old
    → AreCandidates default ws old.keys → IsTaken cmp-value.it old new (Some n) → Taken default ws old new n × ReadyFacts next (numbers (length ws)) out n
facts ordered default ws next out counts old new n s a k = let t = taken ordered default ws old new n a k.0 k.1 k.2 in (t, ready default ws next out counts old new n s t)

sizes : (vs : List (Vec ℕ Global)) (n : ℕ) → length (lists_in vs) ≡ n → length vs ≡ n
sizes vs n e = sym (length-map vs (λ (v : Vec ℕ Global). v.items)) ∙ e

pub count_dependents-requires : goal.count_dependents-requires
count_dependents-requires c = subst (λ k. AreNumbered k (lists_in c.args.edges.now)) (sym (sizes c.args.edges.now (length c.args.walked.now) c.requires.numbered.sized)) c.requires.numbered

pub loop-number-init : goal.loop-number-init
loop-number-init c =
    let next : ℕ → List ℕ = list_at (lists_in c.args.edges.now) in
    let default = c.args.default.now in
    let ws = c.args.walked.now in
    let size = sizes c.args.edges.now (length ws) c.requires.numbered.sized in
    record {
      state = start default ws next c.new-order.result.items (get nat_cmp c.in_ok-counts.counts) c.new-candidates.result c.offer_all.new.candidates c.new-order.ensures.items c.new-candidates.ensures.empty
          (λ q. c.in_ok-counts.ensures q ∙ ap (λ k. count_at next (numbers k) [] q) size) c.in_ok-offer_all.ensures;
      all = c.in_ok-offer_all.ensures.kept (subst (λ (z : List Candidate). AreCandidates default ws z) (sym c.new-candidates.ensures.empty) tt);
    }

pub edges_at-list-requires : goal.edges_at-list-requires
edges_at-list-requires c =
    let ws = c.args.walked.now in
    let f = facts c.keys_are_in_label_order.ensures c.args.default.now ws (list_at (lists_in c.args.edges.now)) c.loop-number.order.items (get nat_cmp c.loop-number.counts) c.loop-number.candidates
    c.take_first.new.candidates c.in-Some.number c.loop-number.invariant.state c.loop-number.invariant.all c.in-Some.ensures in
    omega (arith, number_below (length ws) c.in-Some.number f.1.0, sizes c.args.edges.now (length ws) c.requires.numbered.sized)

pub lessen-requires-clause-once : goal.lessen-requires-clause-once
lessen-requires-clause-once c = subst (λ (z : List ℕ). IsDistinct nat_eq z) (sym c.edges_at-list.ensures) (c.requires.numbered.once c.in-Some.number)

pub lessen-requires-clause-some : goal.lessen-requires-clause-some
lessen-requires-clause-some c = λ q h.
    let ws = c.args.walked.now in
    let default = c.args.default.now in
    let next : ℕ → List ℕ = list_at (lists_in c.args.edges.now) in
    let n = c.in-Some.number in
    let f = facts c.keys_are_in_label_order.ensures default ws next c.loop-number.order.items (get nat_cmp c.loop-number.counts) c.loop-number.candidates
    c.take_first.new.candidates n c.loop-number.invariant.state c.loop-number.invariant.all c.in-Some.ensures in
    some_open next (number_before default ws) (numbers (length ws)) c.loop-number.order.items (get nat_cmp c.loop-number.counts) (λ q. contains cmp-value.it c.loop-number.candidates (candidate_at default ws q)) n
    (numbers_once (length ws)) c.loop-number.invariant.state f.1 q (ap (λ (z : List ℕ). among z q) (sym c.edges_at-list.ensures) ∙ h)

pub offer-requires : goal.offer-requires
offer-requires c = λ q h. c.requires.numbered.below c.in-Some.number q (ap (λ (z : List ℕ). among z q) (sym c.edges_at-list.ensures) ∙ h)

pub loop-number-preserved : goal.loop-number-preserved
loop-number-preserved c =
    let ws = c.args.walked.now in
    let default = c.args.default.now in
    let next : ℕ → List ℕ = list_at (lists_in c.args.edges.now) in
    let n = c.in-Some.number in
    let counts : ℕ → Option ℕ = get nat_cmp c.loop-number.counts in
    let counts' : ℕ → Option ℕ = get nat_cmp c.lessen.new.counts in
    let mid = c.take_first.new.candidates in
    let new = c.offer.new.candidates in
    let f = facts c.keys_are_in_label_order.ensures default ws next c.loop-number.order.items counts c.loop-number.candidates mid n c.loop-number.invariant.state c.loop-number.invariant.all c.in-Some.ensures in
    record {
      state = subst (λ (z : List ℕ). State default ws next z counts' new) (sym c.in_ok-push.ensures.items)
          (step default ws next c.loop-number.order.items counts counts' c.loop-number.candidates mid new n c.loop-number.invariant.state f.0
          (λ q. c.lessen.ensures q ∙ ap (λ (z : List ℕ). lessened (among z q) (counts q)) c.edges_at-list.ensures)
          (subst (λ (z : List ℕ). IsOffered cmp-value.it default ws (λ q. among z q && is_zero (counts' q)) mid new) c.edges_at-list.ensures c.in_ok-offer.ensures));
      all = c.in_ok-offer.ensures.kept f.0.all;
    }

pub loop-number-smaller : goal.loop-number-smaller
loop-number-smaller c =
    let ws = c.args.walked.now in
    let s : State c.args.default.now ws (list_at (lists_in c.args.edges.now)) c.push.new.self.items (get nat_cmp c.lessen.new.counts) c.offer.new.candidates = (loop-number-preserved c).state in
    let few : length c.push.new.self.items ≤ length (numbers (length ws)) = length-le_from_is_member nat_eq_equiv c.push.new.self.items (numbers (length ws)) s.once s.inside in
    let more : length c.push.new.self.items ≡ length c.loop-number.order.items + 1 = ap length c.in_ok-push.ensures.items ∙ length_push c.loop-number.order.items c.in-Some.number in
    omega (arith, few, more, numbers-length (length ws))

pub returns : goal.returns
returns c =
    let ws = c.args.walked.now in
    let default = c.args.default.now in
    let next : ℕ → List ℕ = list_at (lists_in c.args.edges.now) in
    let state = c.loop-number.invariant.state in
    record {
      places = state.places;
      all = order_done next (number_before default ws) (numbers (length ws)) c.loop-number.order.items (get nat_cmp c.loop-number.counts)
          (λ q. contains cmp-value.it c.loop-number.candidates (candidate_at default ws q)) c.requires.ends.0 state
          (λ q. c.in_default.ensures (candidate_at default ws q)) (λ q w. c.requires.ends.1 q (number_below (length ws) q w));
    }
