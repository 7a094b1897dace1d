-- What the table holds once the first seat is idle and all others were joined into it.
use Rattle.std.proofs.Common.{◌≡◌, ℕ, ◌<◌, List, length, get_or, sym, refl, ap, ◌∙◌, subst, arith, Option, Some}
use Rattle.std.specs.List.{All}
use mathlib.Core.Logic.{dite}
use mathlib.Core.Option.{some, some-injective}
use native.Mathlib.Decide.{ℕ_discrete}
use lib.ListN.{get_elem?}
use Rattle.atomic_table.specs.Table.{State, Final, Seen}
use Rattle.gn_turn.specs.declared.view.View.{View}
use Rattle.gn_turn.specs.declared.view.Joined.{Joined}
use Rattle.gn_turn.specs.declared.view.Stage.TheVariants.{Idle, Holding, Returned}
use Rattle.gn_turn.specs.declared.view.Role.TheVariants.{First}
use Rattle.gn_turn.specs.History.{SeenPrefix}
use Rattle.gn_turn.specs.Views.{spent_view}
use Rattle.gn_turn.specs.Invariant.{Slot, at_rest, taken, returned, IsInRole, IsInUse, IsAtHome, SlotHas}
use Rattle.gn_turn.proofs.Lists.{inside, one_view}
use Rattle.gn_turn.proofs.OneSeat.{Rule, live, Homes}

module _ {B E G : Type 0} (basis : B → G) (history : B → List E) (number : E → ℕ) (g : G) where
  -- every number but 0 was joined
  abbrev pub AllJoined : ℕ → List (Joined E) → Type 0
  AllJoined n js = (k : ℕ) → 0 < k → k < n → (i : ℕ) × (d : Joined E) × (i < length js) × ((get_or js i d).number ≡ k)

  -- once the first seat is idle and all others were joined, the value is at home with the history of the last pass-on
  pub closing_holds : (s : State (Option B) (View E G)) (r : Rule basis history number g s) (id : ℕ) (v : View E G) (n : ℕ) (js : List (Joined E))
      → get_elem? s.views id ≡ some v → v.basis ≡ Some g → v.stage ≡ Idle → v.role ≡ First n js → AllJoined n js
      → IsAtHome basis history number g s.homes r.progress.settled × (n ≡ length s.views) × SeenPrefix number 0 v.seen r.progress.settled × All (λ p. SeenPrefix number p.number p.seen r.progress.settled) js
  closing_holds s r id v n js at b idle is all =
      let q = r.progress in
      let k = live basis history number g s r id v at b in
      let role : IsInRole number q s.views id (First n js) = subst (IsInRole number q s.views id) is k.in_role in (
        subst (SlotHas basis history number g q.settled (q.owner q.passed) s.homes) (quiet q.slot r.in_use) r.home,
        role.1,
        subst (λ (j : ℕ). SeenPrefix number j v.seen q.settled) role.0 k.saw,
        λ i d l. (role.2 i d l).0,
      )
    where
      still : (server : ℕ) (x : View E G) → get_elem? s.views server ≡ some x → x.stage ≡ Idle
      still server x there =
          let q = r.progress in
          let k = live basis history number g s r id v at b in
          let role : IsInRole number q s.views id (First n js) = subst (IsInRole number q s.views id) is k.in_role in
          dite (ℕ_discrete server 0)
          (λ e. ap (λ (y : View E G). y.stage) (one_view s.views server x v there (subst (λ (i : ℕ). get_elem? s.views i ≡ some v) (role.0 ∙ sym e) at)) ∙ idle)
          (λ other. let near = inside s.views server x there in let many = role.1 in let h = all server (omega arith) (omega arith) in let p : Joined E = get_or js h.0 h.1 in
          ap (λ (y : View E G). y.stage) (one_view s.views server x spent_view there (subst (λ (i : ℕ). get_elem? s.views i ≡ some spent_view) h.3 (role.2 h.0 h.1 h.2).1)))

      quiet : (d : Slot E) → IsInUse r.progress.passed r.progress.tickets (r.progress.owner r.progress.passed) s.views d → d ≡ at_rest
      quiet at_rest in_use = refl
      quiet taken in_use =
          let e : Idle ≡ Holding r.progress.passed = sym (still _ in_use.1.0 in_use.1.1) ∙ in_use.1.2 in absurd cc
      quiet (returned h) in_use =
          let e : Idle ≡ Returned r.progress.passed h = sym (still _ in_use.1.0 in_use.1.1) ∙ in_use.1.2 in absurd cc

  -- the value in the slot, once the table is closed
  pub final_value : (ws : List ℕ) (xs : List (Option B)) (id : ℕ) (v : View E G) (n : ℕ) (js : List (Joined E))
      → Final (Seen (Rule basis history number g) id v) ws xs → v.basis ≡ Some g → v.stage ≡ Idle → v.role ≡ First n js → AllJoined n js
      → (y : Option B) → get_elem? xs 0 ≡ some y
      → (x : B) × (y ≡ Some x) × (basis x ≡ g) × All (λ e. number e < n) (history x) × SeenPrefix number 0 v.seen (history x) × All (λ p. SeenPrefix number p.number p.seen (history x)) js
  final_value ws xs id v n js final b idle is all y at =
      let s = final.0 in
      let r : Rule basis history number g s = final.1.0 in
      let h = closing_holds s r id v n js final.1.1 b idle is all in
      let x : B = h.0.0 in
      let there : get_elem? xs 0 ≡ some (Some x) = final.4 0 (Some x) (ap (λ (hs : Homes B). get_elem? hs 0) h.0.1) in (
        x,
        some-injective y (Some x) (sym at ∙ there),
        h.0.2,
        subst (λ (z : ℕ × List E). All (λ e. number e < z.0) z.1) (λ i. (sym h.1 i, sym h.0.3 i)) r.known,
        subst (λ (l : List E). SeenPrefix number 0 v.seen l) (sym h.0.3) h.2,
        subst (λ (l : List E). All (λ p. SeenPrefix number p.number p.seen l) js) (sym h.0.3) h.3,
      )
