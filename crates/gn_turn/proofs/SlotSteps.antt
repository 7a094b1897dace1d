-- Taking the slot and giving it back keep the rule.
use Rattle.std.proofs.Common.{◌≡◌, ℕ, cond, List, [], ◌∷◌, set, sym, refl, ap, ◌∙◌, subst, Option, Some}
use mathlib.Core.Option.{none, some}
use lib.ListN.{get_elem?}
use Rattle.atomic_table.specs.Table.{Me, step, takes, gives, put_back, rest, Allows}
use Rattle.atomic_table.proofs.Lists.{set_here}
use Rattle.gn_turn.specs.declared.view.View.{View}
use Rattle.gn_turn.specs.declared.view.Stage.{Stage}
use Rattle.gn_turn.specs.declared.view.Stage.TheVariants.{AtTurn, Holding, Returned}
use Rattle.gn_turn.specs.History.{AddsOwn}
use Rattle.gn_turn.specs.Views.{ticket, has_ticket}
use Rattle.gn_turn.specs.Invariant.{taken, returned, Progress, IsAtStage, IsAtHome, SlotHas}
use Rattle.gn_turn.specs.Steps.{TakesSlot, ReturnsSlot}
use Rattle.gn_turn.proofs.Lists.{inside, sum_same}
use Rattle.gn_turn.proofs.Others.{stage_still}
use Rattle.gn_turn.proofs.OneSeat.{Rule, live, bit, moved, turned, loaded, Homes}

module _ {B E G : Type 0} (basis : B → G) (history : B → List E) (number : E → ℕ) (g : G) where
  -- A seat at its turn takes the slot, with the value that has the settled history.
  pub take_allowed : (slots id : ℕ) (me : Me (Option B) (View E G)) (t : ℕ) → me.0.basis ≡ Some g → me.0.stage ≡ AtTurn t → me.1 ≡ []
      → Allows (Rule basis history number g) slots id me 1 (λ n. n) (TakesSlot basis history (step slots 1 0 0 none) me)
  take_allowed slots id me t b is bare s r _ at _ =
      let q = r.progress in
      let v : View E G = me.0 in
      let k = live basis history number g s r id v at b in
      let st : IsAtStage number q s.views id v.seen (AtTurn t) = subst (IsAtStage number q s.views id v.seen) is k.at_stage in
      let kept : IsAtHome basis history number g s.homes q.settled = subst (SlotHas basis history number g q.settled (q.owner q.passed) s.homes) st.4 r.home in
      let x : B = kept.0 in
      let own : ticket v.stage ≡ q.passed = ap ticket is ∙ st.0 in
      let serves : q.owner q.passed ≡ id = ap q.owner (sym st.0) ∙ st.2 in
      let q' : Progress E = record q { slot = taken } in
      let σ : Stage E = Holding (ticket v.stage) in
      let w : View E G = moved v v.seen σ in
      let homes' : Homes B = set s.homes 0 none in
      let used : get_elem? (set s.views id w) (q.owner q.passed) ≡ some w =
      subst (λ (i : ℕ). get_elem? (set s.views id w) i ≡ some w) (sym serves) (set_here s.views id w (inside s.views id v at)) in (
        w,
        takes 0 (Some x),
        ap (λ (hs : Homes B). get_elem? hs 0) kept.1,
        loaded basis history number g s 1 homes' (set s.views id w) (turned basis history number g s r id v q' v.seen σ s.words homes' at b record {
          words = r.words;
          counted = sum_same bit s.views id v w at (ap (λ (σ : Stage E). cond (has_ticket σ) 1 0) is) ∙ r.counted;
          known = r.known;
          home = ap (λ (hs : Homes B). set hs 0 none) kept.1;
          in_use = (st.1, (w, used, ap (λ (n : ℕ). let z : Stage E = Holding n in z) own));
          still = λ j seen _ y. y;
          others = λ j y other _ z. stage_still number g q q' s.views (set s.views id w) id j other serves refl (λ a c d _. (c, d)) y.seen y.stage z;
          saw = k.saw;
          at_stage = (own, st.1, ap q.owner own ∙ serves, st.3, refl);
        }),
        (refl, (x, ap (λ (c : List (ℕ × Option B)). (0, Some x) ∷ c) bare, k.basis_is ∙ ap (λ (y : G). let z : Option G = Some y in z) (sym kept.2), kept.3 ∙ sym st.3)),
      )

  -- the value in the slot that was taken last
  abbrev held_or : B → List (ℕ × Option B) → B
  held_or d ((k, Some x) ∷ c) = x
  held_or d _ = d

  -- A seat gives the slot back, with a value to which it added entries of its own.
  pub return_allowed : (slots id : ℕ) (me : Me (Option B) (View E G)) (t : ℕ) (x : B) → me.0.basis ≡ Some g → me.0.stage ≡ Holding t
      → me.1 ≡ (0, Some x) ∷ [] → me.0.basis ≡ Some (basis x) → AddsOwn number me.0.number me.0.seen (history x)
      → Allows (Rule basis history number g) slots id me 1 (λ n. n) (ReturnsSlot history (step slots 1 0 0 none) me)
  return_allowed slots id me t x b is has same adds s r _ at _ =
      let q = r.progress in
      let v : View E G = me.0 in
      let k = live basis history number g s r id v at b in
      let st : IsAtStage number q s.views id v.seen (Holding t) = subst (IsAtStage number q s.views id v.seen) is k.at_stage in
      let gone : s.homes ≡ none ∷ [] = subst (SlotHas basis history number g q.settled (q.owner q.passed) s.homes) st.4 r.home in
      let own : ticket v.stage ≡ q.passed = ap ticket is ∙ st.0 in
      let serves : q.owner q.passed ≡ id = ap q.owner (sym st.0) ∙ st.2 in
      let h : List E = history x in
      let grown : AddsOwn number (q.owner q.passed) q.settled h = subst (λ (z : ℕ × List E). AddsOwn number z.0 z.1 h) (λ i. ((k.number_is ∙ sym serves) i, st.3 i)) adds in
      let based : basis x ≡ g = (let e : Some (basis x) ≡ Some g = sym same ∙ b in cc) in
      let q' : Progress E = record q { slot = returned h } in
      let σ : Stage E = Returned (ticket v.stage) h in
      let w : View E G = moved v v.seen σ in
      let homes' : Homes B = put_back s.homes me.1 in
      let now : homes' ≡ some (Some x) ∷ [] = (λ i. put_back (gone i) (has i)) in
      let used : get_elem? (set s.views id w) (q.owner q.passed) ≡ some w =
      subst (λ (i : ℕ). get_elem? (set s.views id w) i ≡ some w) (sym serves) (set_here s.views id w (inside s.views id v at)) in (
        w,
        gives,
        tt,
        loaded basis history number g s 1 homes' (set s.views id w) (turned basis history number g s r id v q' v.seen σ s.words homes' at b record {
          words = r.words;
          counted = sum_same bit s.views id v w at (ap (λ (σ : Stage E). cond (has_ticket σ) 1 0) is) ∙ r.counted;
          known = r.known;
          home = ((x, now, based, refl), grown);
          in_use = (st.1, (w, used, ap (λ (n : ℕ). let z : Stage E = Returned n h in z) own));
          still = λ j seen _ y. y;
          others = λ j y other _ z. stage_still number g q q' s.views (set s.views id w) id j other serves refl (λ a c d _. (c, d)) y.seen y.stage z;
          saw = k.saw;
          at_stage = (own, st.1, ap q.owner own ∙ serves, st.3, refl);
        }),
        (ap rest has, λ y has'. ap (λ (c : List (ℕ × Option B)). record v { stage = Returned (ticket v.stage) (history (held_or x c)) }) (sym has ∙ has')),
      )
