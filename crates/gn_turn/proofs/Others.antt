-- What stays for the other seats when one seat makes a step.
use Rattle.std.proofs.Common.{◌≡◌, ◌≢◌, ℕ, ◌+◌, ◌<◌, ◌≤◌, true, List, ◌++◌, get_or, set, sym, refl, ap, ◌∙◌, subst, arith, length-set, Some, None}
use mathlib.Core.Logic.{dite}
use mathlib.Core.Option.{some}
use native.Mathlib.Decide.{ℕ_discrete}
use lib.ListN.{get_elem?}
use Rattle.atomic_table.proofs.Lists.{set_here, set_else, at_longer}
use Rattle.gn_turn.specs.declared.view.View.{View}
use Rattle.gn_turn.specs.declared.view.Joined.{Joined}
use Rattle.gn_turn.specs.declared.view.Stage.{Stage}
use Rattle.gn_turn.specs.declared.view.Stage.TheVariants.{Idle, Waiting, AtTurn, Holding, Returned}
use Rattle.gn_turn.specs.declared.view.Role.{Role}
use Rattle.gn_turn.specs.declared.view.Role.TheVariants.{Plain, First}
use Rattle.gn_turn.specs.History.{SeenPrefix}
use Rattle.gn_turn.specs.Views.{has_ticket, spent_view}
use Rattle.gn_turn.specs.Invariant.{Slot, at_rest, taken, returned, Progress, IsAtStage, IsInRole, IsInUse}
use Rattle.gn_turn.proofs.Lists.{inside, one_view}

module _ {E G : Type 0} (number : E → ℕ) (g : G) where
  pub not_spent : (v : View E G) → v.basis ≡ Some g → v ≡ spent_view → ⊥
  not_spent v b e = let z : v.basis ≡ None = ap (λ (x : View E G). x.basis) e in cc

  -- the index of a seat that was joined is that of no live seat
  pub apart : (views : List (View E G)) (id n : ℕ) (v : View E G) → get_elem? views id ≡ some v → v.basis ≡ Some g
      → get_elem? views n ≡ some spent_view → n ≢ id
  apart views id n v at b gone e = not_spent v b (one_view views id v spent_view at (subst (λ (i : ℕ). get_elem? views i ≡ some spent_view) e gone))

  -- seats other than id see no less of the new history
  abbrev pub Still : ℕ → List E → List E → Type 0
  Still id h h' = (j : ℕ) (seen : List E) → j ≢ id → SeenPrefix number j seen h → SeenPrefix number j seen h'

  -- a role stays through a step of another seat
  pub in_role_still : (q q' : Progress E) (views : List (View E G)) (id : ℕ) (v w : View E G) → get_elem? views id ≡ some v → v.basis ≡ Some g
      → Still id q.settled q'.settled
      → (j : ℕ) (o : Role E) → IsInRole number q views j o → IsInRole number q' (set views id w) j o
  in_role_still q q' views id v w at b still j Plain k = tt
  in_role_still q q' views id v w at b still j (First n js) k = (
    k.0,
    k.1 ∙ sym (length-set views id w),
    λ i d l. let p : Joined E = get_or js i d in
        let h = k.2 i d l in
        let other : p.number ≢ id = apart views id p.number v at b h.1 in
        (still p.number p.seen other h.0, set_else views id p.number w other ∙ h.1),
  )

  -- seats other than the one that is served stay as they are, where its turn goes on or ends
  pub stage_still : (q q' : Progress E) (views views' : List (View E G)) (id j : ℕ) → j ≢ id → q.owner q.passed ≡ id → q'.owner ≡ q.owner
      → ((t : ℕ) → q.passed ≤ t → t < q.passed + q.tickets → t ≢ q.passed → (q'.passed ≤ t) × (t < q'.passed + q'.tickets))
      → (seen : List E) (σ : Stage E) → IsAtStage number q views j seen σ → IsAtStage number q' views' j seen σ
  stage_still q q' views views' id j other serves same range seen σ k = go σ k
    where
      mine : (t : ℕ) → q.owner t ≡ j → t ≢ q.passed
      mine t o e = other (sym o ∙ (ap q.owner e ∙ serves))

      go : (σ : Stage E) → IsAtStage number q views j seen σ → IsAtStage number q' views' j seen σ
      go Idle k = tt
      go (Waiting t) k = let z = range t k.0 k.1 (mine t k.2) in (z.0, z.1, ap (λ (f : ℕ → ℕ). f t) same ∙ k.2)
      go (AtTurn t) k = absurd (mine t k.2 k.0)
      go (Holding t) k = absurd (mine t k.2 k.0)
      go (Returned t h) k = absurd (mine t k.2 k.0)

  -- the seat that uses the slot keeps its stage, or another changed
  pub in_use_set : (passed tickets server : ℕ) (views : List (View E G)) (id : ℕ) (v w : View E G) (d : Slot E) → get_elem? views id ≡ some v
      → ((σ : Stage E) → has_ticket σ ≡ true → v.stage ≡ σ → w.stage ≡ σ)
      → IsInUse passed tickets server views d → IsInUse passed tickets server (set views id w) d
  in_use_set passed tickets server views id v w at_rest at same b = tt
  in_use_set passed tickets server views id v w taken at same b = (
    b.0,
    dite (ℕ_discrete server id)
        (λ e. let is : v ≡ b.1.0 = one_view views id v b.1.0 at (subst (λ (i : ℕ). get_elem? views i ≡ some b.1.0) e b.1.1) in
        (w, subst (λ (i : ℕ). get_elem? (set views id w) i ≡ some w) (sym e) (set_here views id w (inside views id v at)), same (Holding passed) refl (ap (λ (x : View E G). x.stage) is ∙ b.1.2)))
        (λ other. (b.1.0, set_else views id server w other ∙ b.1.1, b.1.2)),
  )
  in_use_set passed tickets server views id v w (returned h) at same b = (
    b.0,
    dite (ℕ_discrete server id)
        (λ e. let is : v ≡ b.1.0 = one_view views id v b.1.0 at (subst (λ (i : ℕ). get_elem? views i ≡ some b.1.0) e b.1.1) in
        (w, subst (λ (i : ℕ). get_elem? (set views id w) i ≡ some w) (sym e) (set_here views id w (inside views id v at)), same (Returned passed h) refl (ap (λ (x : View E G). x.stage) is ∙ b.1.2)))
        (λ other. (b.1.0, set_else views id server w other ∙ b.1.1, b.1.2)),
  )

  -- where the seat that is served only waits, the slot is at rest
  pub rests_while_waiting : (passed tickets server : ℕ) (views : List (View E G)) (v : View E G) (t : ℕ) (d : Slot E)
      → get_elem? views server ≡ some v → v.stage ≡ Waiting t → IsInUse passed tickets server views d → d ≡ at_rest
  rests_while_waiting passed tickets server views v t at_rest at is b = refl
  rests_while_waiting passed tickets server views v t taken at is b =
      let z : v ≡ b.1.0 = one_view views server v b.1.0 at b.1.1 in
      let x : Waiting t ≡ Holding passed = sym is ∙ (ap (λ (y : View E G). y.stage) z ∙ b.1.2) in absurd cc
  rests_while_waiting passed tickets server views v t (returned h) at is b =
      let z : v ≡ b.1.0 = one_view views server v b.1.0 at b.1.1 in
      let x : Waiting t ≡ Returned passed h = sym is ∙ (ap (λ (y : View E G). y.stage) z ∙ b.1.2) in absurd cc

  pub in_use_more : (passed tickets server server' : ℕ) (views : List (View E G)) (d : Slot E) → (0 < tickets → server' ≡ server)
      → IsInUse passed tickets server views d → IsInUse passed (tickets + 1) server' views d
  in_use_more passed tickets server server' views at_rest same b = tt
  in_use_more passed tickets server server' views taken same b = (omega arith, (b.1.0, subst (λ (i : ℕ). get_elem? views i ≡ some b.1.0) (sym (same b.0)) b.1.1, b.1.2))
  in_use_more passed tickets server server' views (returned h) same b = (omega arith, (b.1.0, subst (λ (i : ℕ). get_elem? views i ≡ some b.1.0) (sym (same b.0)) b.1.1, b.1.2))

  pub in_use_longer : (passed tickets server : ℕ) (views extra : List (View E G)) (d : Slot E) → IsInUse passed tickets server views d
      → IsInUse passed tickets server (views ++ extra) d
  in_use_longer passed tickets server views extra at_rest b = tt
  in_use_longer passed tickets server views extra taken b = (b.0, (b.1.0, at_longer views extra server b.1.0 b.1.1, b.1.2))
  in_use_longer passed tickets server views extra (returned h) b = (b.0, (b.1.0, at_longer views extra server b.1.0 b.1.1, b.1.2))

  -- what a seat's stage says stays, whatever the other views are
  pub stage_same : (q : Progress E) (views views' : List (View E G)) (j : ℕ) (seen : List E) (σ : Stage E) → IsAtStage number q views j seen σ
      → IsAtStage number q views' j seen σ
  stage_same q views views' j seen Idle k = tt
  stage_same q views views' j seen (Waiting t) k = k
  stage_same q views views' j seen (AtTurn t) k = k
  stage_same q views views' j seen (Holding t) k = k
  stage_same q views views' j seen (Returned t h) k = k

  -- only the seat 0 has a role
  pub plain_else : (q : Progress E) (views views' : List (View E G)) (j : ℕ) (o : Role E) → j ≢ 0 → IsInRole number q views j o
      → IsInRole number q views' j o
  plain_else q views views' j Plain other k = tt
  plain_else q views views' j (First n js) other k = absurd (other k.0)
