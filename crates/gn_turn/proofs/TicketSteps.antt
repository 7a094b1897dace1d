-- Drawing a ticket, loading the ticket that is served, and passing on keep the rule.
use Rattle.std.proofs.Common.{◌≡◌, ℕ, ◌+◌, ◌-◌, ◌%◌, ◌^◌, ◌<◌, true, false, cond, List, [], ◌∷◌, length, get_or, set, sym, refl, ap, ◌∙◌, subst, arith, Option, Some}
use Rattle.std.specs.List.{All, sum_by}
use Rattle.std.proofs.lemmas.List.Elements.{All-append}
use mathlib.Core.Logic.{dite}
use mathlib.Core.Option.{none, some}
use native.Mathlib.Decide.{ℕ_discrete}
use lib.ListN.{get_elem?}
use Rattle.atomic_table.specs.Table.{Me, step, keeps, Allows}
use Rattle.atomic_table.proofs.Lists.{set_again, one_turn}
use Rattle.gn_turn.specs.declared.view.View.{View}
use Rattle.gn_turn.specs.declared.view.Stage.{Stage}
use Rattle.gn_turn.specs.declared.view.Stage.TheVariants.{Idle, Waiting, AtTurn, Holding, Returned}
use Rattle.gn_turn.specs.History.{SeenPrefix, AddsOwn}
use Rattle.gn_turn.specs.Views.{ticket, has_ticket, returned_history}
use Rattle.gn_turn.specs.Invariant.{Slot, at_rest, taken, returned, Progress, IsAtStage, IsInUse, IsAtHome, SlotHas}
use Rattle.gn_turn.specs.Steps.{DrawsTicket, LoadsServing, PassesOn}
use Rattle.gn_turn.proofs.Lists.{saw_whole, saw_more, inside, sum_set, sum_same}
use Rattle.gn_turn.proofs.Owners.{put, put_here, put_else}
use Rattle.gn_turn.proofs.Others.{stage_still, in_use_set, in_use_more, rests_while_waiting}
use Rattle.gn_turn.proofs.OneSeat.{Rule, live, few_out, bit, moved, turned, loaded, Homes}

module _ {B E G : Type 0} (basis : B → G) (history : B → List E) (number : E → ℕ) (g : G) where
  -- A waiting seat reads word 1. Where its ticket stands there, the slot is at rest and the seat sees the settled history; else nothing changes.
  pub load_allowed : (slots id : ℕ) (me : Me (Option B) (View E G)) (t : ℕ) → me.0.basis ≡ Some g → me.0.stage ≡ Waiting t
      → Allows (Rule basis history number g) slots id me 1 (λ n. n) (LoadsServing number (step slots 1 0 0 none) me)
  load_allowed slots id me t b is s r _ at _ =
      let q = r.progress in
      let v : View E G = me.0 in
      let k = live basis history number g s r id v at b in
      let st : IsAtStage number q s.views id v.seen (Waiting t) = subst (IsAtStage number q s.views id v.seen) is k.at_stage in
      let n : ℕ = get_or s.words 1 0 in
      let word : n ≡ q.passed % 2 ^ 64 = ap (λ (ws : List ℕ). get_or ws 1 0) r.words in
      let few = few_out basis history number g s r in
      let upper = st.1 in
      dite (ℕ_discrete n (ticket v.stage % 2 ^ 64)) (λ hit.
      let same : q.passed ≡ t = one_turn q.passed t (2 ^ 64) st.0 (omega arith) (sym word ∙ (hit ∙ ap (λ (σ : Stage E). ticket σ % 2 ^ 64) is)) in
      let serves : q.owner q.passed ≡ id = ap q.owner same ∙ st.2 in
      let quiet : q.slot ≡ at_rest = rests_while_waiting number g q.passed q.tickets (q.owner q.passed) s.views v t q.slot (subst (λ (i : ℕ). get_elem? s.views i ≡ some v) (sym serves) at) is r.in_use in
      let own : ticket v.stage ≡ q.passed = ap ticket is ∙ sym same in
      let w : View E G = moved v q.settled (AtTurn (ticket v.stage)) in (
        w,
        keeps,
        tt,
        loaded basis history number g s 1 s.homes (set s.views id w) (turned basis history number g s r id v q q.settled (AtTurn (ticket v.stage)) s.words s.homes at b record {
          words = r.words;
          counted = sum_same bit s.views id v w at (ap (λ (σ : Stage E). cond (has_ticket σ) 1 0) is) ∙ r.counted;
          known = r.known;
          home = r.home;
          in_use = subst (IsInUse q.passed q.tickets (q.owner q.passed) (set s.views id w)) (sym quiet) tt;
          still = λ j seen _ x. x;
          others = λ j x other _ y. stage_still number g q q s.views (set s.views id w) id j other serves refl (λ a c d _. (c, d)) x.seen x.stage y;
          saw = saw_whole number id q.settled;
          at_stage = (own, omega arith, ap q.owner own ∙ serves, refl, quiet);
        }),
        (refl, (λ _. (refl, subst (λ (j : ℕ). SeenPrefix number j v.seen q.settled) (sym k.number_is) k.saw)), λ miss. absurd (miss hit)),
      ))
      (λ miss. (
        v,
        keeps,
        tt,
        loaded basis history number g s 1 s.homes (set s.views id v) (subst (λ (vs : List (View E G)). Rule basis history number g record { words = s.words; homes = s.homes; views = vs }) (sym (set_again s.views id v at)) r),
        (refl, (λ hit. absurd (miss hit)), λ _. refl),
      ))

  -- one more ticket leaves the slot as it is
  home_more : (passed tickets server server' : ℕ) (views : List (View E G)) (settled : List E) (homes : Homes B) (d : Slot E)
      → (0 < tickets → server' ≡ server) → IsInUse passed tickets server views d → SlotHas basis history number g settled server homes d
      → SlotHas basis history number g settled server' homes d
  home_more passed tickets server server' views settled homes at_rest same b h = h
  home_more passed tickets server server' views settled homes taken same b h = h
  home_more passed tickets server server' views settled homes (returned l) same b h = (h.0, subst (λ (i : ℕ). AddsOwn number i settled l) (sym (same b.0)) h.1)

  -- An idle seat adds one to word 0, and has the ticket that was there.
  pub draw_allowed : (slots id : ℕ) (me : Me (Option B) (View E G)) → me.0.basis ≡ Some g → me.0.stage ≡ Idle
      → Allows (Rule basis history number g) slots id me 0 (λ n. (n + 1) % 2 ^ 64) (DrawsTicket (step slots 0 1 0 none) me)
  draw_allowed slots id me b is s r _ at _ =
      let q = r.progress in
      let v : View E G = me.0 in
      let k = live basis history number g s r id v at b in
      let p : ℕ = q.passed in
      let o : ℕ = q.tickets in
      let t : ℕ = p + o in
      let owner' : ℕ → ℕ = put q.owner t id in
      let q' : Progress E = record { passed = p; tickets = o + 1; owner = owner'; slot = q.slot; settled = q.settled } in
      let σ : Stage E = Waiting t in
      let w : View E G = moved v v.seen σ in
      let server : 0 < o → owner' p ≡ q.owner p = λ h. put_else q.owner t id p (λ e. omega arith) in
      let n : ℕ = get_or s.words 0 0 in
      let there : n ≡ t % 2 ^ 64 = ap (λ (ws : List ℕ). get_or ws 0 0) r.words in
      let words : set s.words 0 ((n + 1) % 2 ^ 64) ≡ (p + (o + 1)) % 2 ^ 64 ∷ p % 2 ^ 64 ∷ [] = ap (λ (ws : List ℕ). set ws 0 ((n + 1) % 2 ^ 64)) r.words
      ∙ (λ i. (let e : (n + 1) % 2 ^ 64 ≡ (p + (o + 1)) % 2 ^ 64 = omega arith in e i) ∷ p % 2 ^ 64 ∷ []) in
      let counted : sum_by bit (set s.views id w) ≡ o + 1 = (let e = sum_set bit s.views id v w at in let a : bit v ≡ 0 = ap (λ (σ : Stage E). cond (has_ticket σ) 1 0) is in let c = r.counted in omega arith) in
      let in_use = in_use_set number g p o (q.owner p) s.views id v w q.slot at (λ τ has τ_is. let z : Idle ≡ τ = sym is ∙ τ_is in let y : false ≡ true = ap has_ticket z ∙ has in absurd cc) r.in_use in (
        w,
        keeps,
        tt,
        turned basis history number g s r id v q' v.seen σ (set s.words 0 ((n + 1) % 2 ^ 64)) s.homes at b record {
          words = words;
          counted = counted;
          known = r.known;
          home = home_more p o (q.owner p) (owner' p) s.views q.settled s.homes q.slot server r.in_use r.home;
          in_use = in_use_more number g p o (q.owner p) (owner' p) (set s.views id w) q.slot server in_use;
          still = λ j seen _ x. x;
          others = λ j y other _ z. drawn q s.views (set s.views id w) id j y.seen y.stage z;
          saw = k.saw;
          at_stage = (omega arith, omega arith, put_here q.owner t id);
        },
        (refl, there, refl),
      )
    where
      -- the other seats keep their tickets
      drawn : (q : Progress E) (views views' : List (View E G)) (id j : ℕ) (seen : List E) (σ : Stage E) → IsAtStage number q views j seen σ
          → IsAtStage number (record q { tickets = q.tickets + 1; owner = put q.owner (q.passed + q.tickets) id }) views' j seen σ
      drawn q views views' id j seen Idle k = tt
      drawn q views views' id j seen (Waiting t) k =
          let a = k.1 in (k.0, omega arith, put_else q.owner (q.passed + q.tickets) id t (λ e. omega arith) ∙ k.2)
      drawn q views views' id j seen (AtTurn t) k =
          let a = k.0 in
          let b = k.1 in (k.0, omega arith, put_else q.owner (q.passed + q.tickets) id t (λ e. omega arith) ∙ k.2, k.3, k.4)
      drawn q views views' id j seen (Holding t) k =
          let a = k.0 in
          let b = k.1 in (k.0, omega arith, put_else q.owner (q.passed + q.tickets) id t (λ e. omega arith) ∙ k.2, k.3, k.4)
      drawn q views views' id j seen (Returned t h) k =
          let a = k.0 in
          let b = k.1 in (k.0, omega arith, put_else q.owner (q.passed + q.tickets) id t (λ e. omega arith) ∙ k.2, k.3, k.4)

  -- A seat that gave the value back adds one to word 1, and what it gave back is the settled history.
  pub pass_on_allowed : (slots id : ℕ) (me : Me (Option B) (View E G)) (t : ℕ) (h : List E) → me.0.basis ≡ Some g → me.0.stage ≡ Returned t h
      → Allows (Rule basis history number g) slots id me 1 (λ n. (n + 1) % 2 ^ 64) (PassesOn (step slots 1 1 0 none) me)
  pass_on_allowed slots id me t h b is s r _ at _ =
      let q = r.progress in
      let v : View E G = me.0 in
      let k = live basis history number g s r id v at b in
      let st : IsAtStage number q s.views id v.seen (Returned t h) = subst (IsAtStage number q s.views id v.seen) is k.at_stage in
      let kept : IsAtHome basis history number g s.homes h × AddsOwn number (q.owner q.passed) q.settled h = subst (SlotHas basis history number g q.settled (q.owner q.passed) s.homes) st.4 r.home in
      let serves : q.owner q.passed ≡ id = ap q.owner (sym st.0) ∙ st.2 in
      let some_out = st.1 in
      let p : ℕ = q.passed in
      let o : ℕ = q.tickets in
      let grown : AddsOwn number id q.settled h = subst (λ (i : ℕ). AddsOwn number i q.settled h) serves kept.1 in
      let within = inside s.views id v at in
      let back_is : returned_history v.stage ≡ h = ap returned_history is in
      let q' : Progress E = record { passed = p + 1; tickets = o - 1; owner = q.owner; slot = at_rest; settled = returned_history v.stage } in
      let w : View E G = moved v (returned_history v.stage) Idle in
      let grown' : AddsOwn number id q.settled (returned_history v.stage) = subst (λ (l : List E). AddsOwn number id q.settled l) (sym back_is) grown in
      let n : ℕ = get_or s.words 1 0 in
      let there : n ≡ p % 2 ^ 64 = ap (λ (ws : List ℕ). get_or ws 1 0) r.words in
      let words : set s.words 1 ((n + 1) % 2 ^ 64) ≡ ((p + 1) + (o - 1)) % 2 ^ 64 ∷ (p + 1) % 2 ^ 64 ∷ [] = ap (λ (ws : List ℕ). set ws 1 ((n + 1) % 2 ^ 64)) r.words
      ∙ (λ i. (let e : p + o ≡ (p + 1) + (o - 1) = omega arith in e i) % 2 ^ 64 ∷ (let e : (n + 1) % 2 ^ 64 ≡ (p + 1) % 2 ^ 64 = omega arith in e i) ∷ []) in
      let counted : sum_by bit (set s.views id w) ≡ o - 1 = (let e = sum_set bit s.views id v w at in let a : bit v ≡ 1 = ap (λ (σ : Stage E). cond (has_ticket σ) 1 0) is in let c = r.counted in omega arith) in (
        w,
        keeps,
        tt,
        turned basis history number g s r id v q' (returned_history v.stage) Idle (set s.words 1 ((n + 1) % 2 ^ 64)) s.homes at b record {
          words = words;
          counted = counted;
          known = subst (λ (l : List E). All (λ e. number e < length s.views) l) grown'.is
              (All-append (λ e. number e < length s.views) q.settled grown'.added r.known (λ i d l. let e = grown'.own i d l in omega arith));
          home = subst (IsAtHome basis history number g s.homes) (sym back_is) kept.0;
          in_use = tt;
          still = λ j seen other x. saw_more number j id seen q.settled (returned_history v.stage) other grown' x;
          others = λ j y other _ z. stage_still number g q q' s.views (set s.views id w) id j other serves refl (λ a c d miss. (omega arith, omega arith)) y.seen y.stage z;
          saw = saw_whole number id (returned_history v.stage);
          at_stage = tt;
        },
        (refl, refl),
      )
