-- The rule after a step of one seat that keeps its number, its basis and its role.
use Rattle.std.proofs.Common.{◌≡◌, ◌≢◌, ◌⊎◌, ℕ, ◌+◌, ◌%◌, ◌^◌, ◌<◌, ◌≤◌, cond, List, [], ◌∷◌, length, get_or, set, sym, subst, inl, inr, ⊎_elim, arith, length-set, Option, Some}
use Rattle.std.specs.List.{All, sum_by}
use Rattle.std.proofs.lemmas.List.Sums.{count_by-le-length}
use mathlib.Core.Option.{none, some, some-injective, some-ne-none}
use mathlib.Core.Option as maybe
use lib.ListN.{get_elem?}
use lib.Seq.{set-get_or}
use Rattle.atomic_table.specs.Table.{State}
use Rattle.atomic_table.proofs.Lists.{at_set}
use Rattle.gn_turn.specs.declared.view.View.{View}
use Rattle.gn_turn.specs.declared.view.Stage.{Stage}
use Rattle.gn_turn.specs.History.{SeenPrefix}
use Rattle.gn_turn.specs.Views.{spent_view, has_drawn}
use Rattle.gn_turn.specs.Invariant.{Progress, IsAtStage, IsSeated, IsInUse, SlotHas, LockInvariant}
use Rattle.gn_turn.proofs.Others.{not_spent, Still, in_role_still}

module _ {E G : Type 0} where
  -- 1 where the seat has a ticket
  abbrev pub bit : View E G → ℕ
  bit x = cond (has_drawn x) 1 0

  -- the view after a step that keeps number, basis and role
  abbrev pub moved : View E G → List E → Stage E → View E G
  moved v seen σ = record v { seen = seen; stage = σ }

-- the slot at home or out
abbrev pub Homes : Type 0 → Type 0
Homes B = List (maybe.Option (Option B))

module _ {B E G : Type 0} (basis : B → G) (history : B → List E) (number : E → ℕ) (g : G) where
  abbrev pub Rule : State (Option B) (View E G) → Type 0
  Rule = LockInvariant basis history number g

  -- what the rule says of a live seat
  pub live : (s : State (Option B) (View E G)) (r : Rule s) (id : ℕ) (v : View E G) → get_elem? s.views id ≡ some v → v.basis ≡ Some g
      → IsSeated number r.progress s.views id g v
  live s r id v at b = ⊎_elim (λ (e : v ≡ spent_view). absurd (not_spent number g v b e)) (λ k. k) (r.seats id v at)

  -- at most 64 tickets are out
  pub few_out : (s : State (Option B) (View E G)) (r : Rule s) → r.progress.tickets ≤ 64
  few_out s r = let a = count_by-le-length has_drawn s.views in let b = r.few in let c = r.counted in omega arith

  -- the seat id goes from v to w, and the progress from q to q'
  pub seats_after : (s : State (Option B) (View E G)) (r : Rule s) (id : ℕ) (v w : View E G) (q' : Progress E) → get_elem? s.views id ≡ some v
      → v.basis ≡ Some g → Still number g id r.progress.settled q'.settled
      → ((j : ℕ) (x : View E G) → j ≢ id → get_elem? s.views j ≡ some x → IsAtStage number r.progress s.views j x.seen x.stage → IsAtStage number q' (set s.views id w) j x.seen x.stage)
      → IsSeated number q' (set s.views id w) id g w
      → (j : ℕ) (x : View E G) → get_elem? (set s.views id w) j ≡ some x → (x ≡ spent_view) ⊎ IsSeated number q' (set s.views id w) j g x
  seats_after s r id v w q' at b still others mine j x e = ⊎_elim
      (λ (t : (j ≡ id) × (w ≡ x)). inr (subst (λ (z : ℕ × View E G). IsSeated number q' (set s.views id w) z.0 g z.1) (λ i. (sym t.0 i, t.1 i)) mine))
      (λ (t : (j ≢ id) × (get_elem? s.views j ≡ some x)). ⊎_elim (λ (z : x ≡ spent_view). inl z) (λ (k : IsSeated number r.progress s.views j g x). inr record {
        number_is = k.number_is;
        basis_is = k.basis_is;
        saw = still j x.seen t.0 k.saw;
        at_stage = others j x t.0 t.1 k.at_stage;
        in_role = in_role_still number g r.progress q' s.views id v w at b still j x.role k.in_role;
      }) (r.seats j x t.1))
      (at_set s.views id j w x e)

  -- What has to hold after a step of the seat id, which goes from the view v to another history seen and another stage, while the progress becomes q'
  pub record KeepsRule (s : State (Option B) (View E G)) (r : Rule s) (id : ℕ) (v : View E G) (q' : Progress E) (seen : List E) (σ : Stage E) (words' : List ℕ) (homes' : Homes B) : Type 0 where
    pub words : words' ≡ (q'.passed + q'.tickets) % 2 ^ 64 ∷ q'.passed % 2 ^ 64 ∷ []
    pub counted : sum_by bit (set s.views id (moved v seen σ)) ≡ q'.tickets
    pub known : All (λ e. number e < length s.views) q'.settled
    pub home : SlotHas basis history number g q'.settled (q'.owner q'.passed) homes' q'.slot
    pub in_use : IsInUse q'.passed q'.tickets (q'.owner q'.passed) (set s.views id (moved v seen σ)) q'.slot
    -- of the other seats
    pub still : Still number g id r.progress.settled q'.settled
    pub others : (j : ℕ) (x : View E G) → j ≢ id → get_elem? s.views j ≡ some x
        → IsAtStage number r.progress s.views j x.seen x.stage → IsAtStage number q' (set s.views id (moved v seen σ)) j x.seen x.stage
    -- of the seat itself
    pub saw : SeenPrefix number id seen q'.settled
    pub at_stage : IsAtStage number q' (set s.views id (moved v seen σ)) id seen σ

  -- the rule holds after such a step
  pub turned : (s : State (Option B) (View E G)) (r : Rule s) (id : ℕ) (v : View E G) (q' : Progress E) (seen : List E) (σ : Stage E) (words' : List ℕ) (homes' : Homes B)
      → get_elem? s.views id ≡ some v → v.basis ≡ Some g → KeepsRule s r id v q' seen σ words' homes'
      → Rule record { words = words'; homes = homes'; views = set s.views id (moved v seen σ) }
  turned s r id v q' seen σ words' homes' at b after =
      let w : View E G = moved v seen σ in
      let k = live s r id v at b in
      let long = length-set s.views id w in record {
        progress = q';
        words = after.words;
        counted = after.counted;
        few = subst (λ (n : ℕ). n ≤ 64) (sym long) r.few;
        known = subst (λ (n : ℕ). All (λ e. number e < n) q'.settled) (sym long) after.known;
        home = after.home;
        in_use = after.in_use;
        seats = seats_after s r id v w q' at b after.still after.others record {
          number_is = k.number_is;
          basis_is = k.basis_is;
          saw = after.saw;
          at_stage = after.at_stage;
          in_role = in_role_still number g r.progress q' s.views id v w at b after.still id v.role k.in_role;
        };
      }

  -- a load leaves the word as it was
  pub loaded : (s : State (Option B) (View E G)) (i : ℕ) (homes : Homes B) (views : List (View E G))
      → Rule record { words = s.words; homes = homes; views = views }
      → Rule record { words = set s.words i (get_or s.words i 0); homes = homes; views = views }
  loaded s i homes views = subst (λ (ws : List ℕ). Rule record { words = ws; homes = homes; views = views }) (sym (set-get_or s.words i 0))
