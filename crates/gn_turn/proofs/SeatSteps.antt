-- The rule holds of the first seat alone, and splitting a seat and joining one keep it.
use Rattle.std.proofs.Common.{◌≡◌, ◌≢◌, ◌⊎◌, ℕ, zero, suc, ◌+◌, ◌<◌, ◌≤◌, true, false, cond, List, [], ◌∷◌, ◌++◌, length, get_or, set, sym, refl, ap, ◌∙◌, subst, inl, inr, ⊎_elim, arith, length-set, length-append, Some}
use Rattle.std.specs.List.{All}
use Rattle.std.proofs.lemmas.List.Elements.{All-append, All-nil, All-cons}
use Rattle.std.proofs.lemmas.List.Sums.{sum_by-append, sum_by-cons}
use mathlib.Core.Option.{some, some-injective, some-ne-none}
use lib.ListN.{get_elem?}
use Rattle.atomic_table.specs.Table.{Splits, Joins, opening}
use Rattle.atomic_table.proofs.Lists.{at_set, set_here, set_else, at_longer}
use Rattle.gn_turn.specs.declared.view.View.{View}
use Rattle.gn_turn.specs.declared.view.Joined.{Joined}
use Rattle.gn_turn.specs.declared.view.Stage.{Stage}
use Rattle.gn_turn.specs.declared.view.Stage.TheVariants.{Idle}
use Rattle.gn_turn.specs.declared.view.Role.{Role}
use Rattle.gn_turn.specs.declared.view.Role.TheVariants.{First}
use Rattle.gn_turn.specs.History.{SeenPrefix}
use Rattle.gn_turn.specs.Views.{has_ticket, one_more_given, numbers_given, taking_in, spent_view, first_view, after_split, split_off, after_join}
use Rattle.gn_turn.specs.Invariant.{at_rest, Progress, IsRemembered, IsInRole, IsSeated}
use Rattle.gn_turn.proofs.Lists.{saw_whole, saw_none, inside, sum_same, at_end}
use Rattle.gn_turn.proofs.Others.{apart, in_use_set, in_use_longer, stage_same, plain_else}
use Rattle.gn_turn.proofs.OneSeat.{Rule, live, bit}

module _ {B E G : Type 0} (basis : B → G) (history : B → List E) (number : E → ℕ) (g : G) where
  -- the first seat alone, over a value without history
  pub opening_holds : (x : B) → basis x ≡ g → history x ≡ [] → (Rule basis history number g) (opening (0 ∷ 0 ∷ []) (Some x ∷ []) (first_view g))
  opening_holds x based empty = record {
    progress = record { passed = 0; tickets = 0; owner = λ _. 0; slot = at_rest; settled = [] };
    words = refl;
    counted = refl;
    few = omega arith;
    known = All-nil (λ e. number e < 1);
    home = (x, refl, based, empty);
    in_use = tt;
    seats = first;
  }
    where
      q : Progress E
      q = record { passed = 0; tickets = 0; owner = λ _. 0; slot = at_rest; settled = [] }

      first : (j : ℕ) (v : View E G) → get_elem? (first_view g ∷ []) j ≡ some v
          → (v ≡ spent_view) ⊎ IsSeated number (record { passed = 0; tickets = 0; owner = λ _. 0; slot = at_rest; settled = [] }) (first_view g ∷ []) j g v
      first zero v e = inr (subst (IsSeated number (record { passed = 0; tickets = 0; owner = λ _. 0; slot = at_rest; settled = [] }) (first_view g ∷ []) 0 g) (some-injective (first_view g) v e) record {
        number_is = refl;
        basis_is = refl;
        saw = saw_whole number 0 [];
        at_stage = tt;
        in_role = (refl, refl, All-nil (IsRemembered number (record { passed = 0; tickets = 0; owner = λ _. 0; slot = at_rest; settled = [] }) (first_view g ∷ []) 0));
      })
      first (suc j) v e = absurd (some-ne-none v (sym e))

  -- The first seat gives out the next number.
  pub split_allowed : (id : ℕ) (v : View E G) (n : ℕ) (js : List (Joined E)) → v.basis ≡ Some g → v.role ≡ First n js → n < 64
      → Splits (Rule basis history number g) id v (after_split v) (split_off v)
  split_allowed id v n js b is room s r at =
      let q = r.progress in
      let k = live basis history number g s r id v at b in
      let w : View E G = after_split v in
      let o : View E G = split_off v in
      let vs : List (View E G) = set s.views id w in
      let views' : List (View E G) = vs ++ o ∷ [] in
      let role : IsInRole number q s.views id (First n js) = subst (IsInRole number q s.views id) is k.in_role in
      let near = inside s.views id v at in
      let long : length views' ≡ length s.views + 1 = omega (arith, length-append vs (o ∷ []), length-set s.views id w) in
      let long' = length-set s.views id w in
      let many : n ≡ length s.views = role.1 in
      let known : All (λ e. number e < length s.views) q.settled = r.known in
      let kept : (p : Joined E) → IsRemembered number q s.views id p → IsRemembered number q views' id p = λ p m.
      (m.0, at_longer vs (o ∷ []) p.number spent_view (set_else s.views id p.number w (apart number g s.views id p.number v at b m.1) ∙ m.1)) in record {
        progress = q;
        words = r.words;
        counted = sum_by-append bit vs (o ∷ []) ∙ (let e = sum_same bit s.views id v w at refl in let c = r.counted in omega (arith, sum_by-cons bit o []));
        few = omega arith;
        known = λ i d l. let e = known i d l in omega arith;
        home = r.home;
        in_use = in_use_longer number g q.passed q.tickets (q.owner q.passed) vs (o ∷ []) q.slot (in_use_set number g q.passed q.tickets (q.owner q.passed) s.views id v w q.slot at (λ _ _ e. e) r.in_use);
        seats = λ j x e. ⊎_elim
            (λ (t : get_elem? vs j ≡ some x). ⊎_elim
            (λ (u : (j ≡ id) × (w ≡ x)). inr (subst (λ (z : ℕ × View E G). IsSeated number q views' z.0 g z.1) (λ i. (sym u.0 i, u.1 i)) record {
              number_is = k.number_is;
              basis_is = k.basis_is;
              saw = k.saw;
              at_stage = stage_same number g q s.views views' id v.seen v.stage k.at_stage;
              in_role = subst (λ (x : Role E). IsInRole number q views' id (one_more_given x)) (sym is) (role.0, omega arith, λ i d l. kept (get_or js i d) (role.2 i d l));
            }))
            (λ (u : (j ≢ id) × (get_elem? s.views j ≡ some x)). ⊎_elim (λ (z : x ≡ spent_view). inl z) (λ (m : IsSeated number q s.views j g x). inr record {
              number_is = m.number_is;
              basis_is = m.basis_is;
              saw = m.saw;
              at_stage = stage_same number g q s.views views' j x.seen x.stage m.at_stage;
              in_role = plain_else number g q s.views views' j x.role (λ z. u.0 (z ∙ sym role.0)) m.in_role;
            }) (r.seats j x u.1))
            (at_set s.views id j w x t))
            (λ (t : (j ≡ length vs) × (o ≡ x)). inr (subst (λ (z : View E G). IsSeated number q views' j g z) t.1 record {
              number_is = ap numbers_given is ∙ (many ∙ (sym long' ∙ sym t.0));
              basis_is = b;
              saw = saw_none number j q.settled (λ i d l z. let e = known i d l in let y = t.0 in omega arith);
              at_stage = tt;
              in_role = tt;
            }))
            (at_end vs o x j e);
      }

  -- The first seat takes an idle one in.
  pub join_allowed : (id : ℕ) (v : View E G) (n : ℕ) (js : List (Joined E)) (other : ℕ) (l : View E G) → v.basis ≡ Some g → v.role ≡ First n js
      → l.basis ≡ Some g → l.stage ≡ Idle → Joins (Rule basis history number g) id v other l (after_join v l) spent_view
  join_allowed id v n js other l b is lb idle s r at apart' there =
      let q = r.progress in
      let k = live basis history number g s r id v at b in
      let w : View E G = after_join v l in
      let vs : List (View E G) = set s.views id w in
      let views' : List (View E G) = set vs other spent_view in
      let at' : get_elem? s.views other ≡ some l = sym (set_else s.views id other w apart') ∙ there in
      let m = live basis history number g s r other l at' lb in
      let role : IsInRole number q s.views id (First n js) = subst (IsInRole number q s.views id) is k.in_role in
      let long : length views' ≡ length s.views = length-set vs other spent_view ∙ length-set s.views id w in
      let kept : (p : Joined E) → IsRemembered number q s.views id p → IsRemembered number q views' id p = λ p x.
      let far : p.number ≢ other = apart number g s.views other p.number l at' lb x.1 in
      (x.0, set_else vs other p.number spent_view far ∙ (set_else s.views id p.number w (apart number g s.views id p.number v at b x.1) ∙ x.1)) in
      let new : Joined E = record { number = l.number; seen = l.seen } in
      let added : IsRemembered number q views' id new = (subst (λ (j : ℕ). SeenPrefix number j l.seen q.settled) (sym m.number_is) m.saw, subst (λ (j : ℕ). get_elem? views' j ≡ some spent_view) (sym m.number_is) (set_here vs other spent_view (inside vs other l there))) in record {
        progress = q;
        words = r.words;
        counted = sum_same bit vs other l spent_view there (ap (λ (σ : Stage E). cond (has_ticket σ) 1 0) idle) ∙ (sum_same bit s.views id v w at refl ∙ r.counted);
        few = subst (λ (x : ℕ). x ≤ 64) (sym long) r.few;
        known = subst (λ (x : ℕ). All (λ e. number e < x) q.settled) (sym long) r.known;
        home = r.home;
        in_use = in_use_set number g q.passed q.tickets (q.owner q.passed) vs other l spent_view q.slot there (λ σ has e. let z : Idle ≡ σ = sym idle ∙ e in let y : false ≡ true = ap has_ticket z ∙ has in absurd cc)
            (in_use_set number g q.passed q.tickets (q.owner q.passed) s.views id v w q.slot at (λ _ _ e. e) r.in_use);
        seats = λ j x e. ⊎_elim
            (λ (t : (j ≡ other) × (spent_view ≡ x)). inl (sym t.1))
            (λ (t : (j ≢ other) × (get_elem? vs j ≡ some x)). ⊎_elim
            (λ (u : (j ≡ id) × (w ≡ x)). inr (subst (λ (z : ℕ × View E G). IsSeated number q views' z.0 g z.1) (λ i. (sym u.0 i, u.1 i)) record {
              number_is = k.number_is;
              basis_is = k.basis_is;
              saw = k.saw;
              at_stage = stage_same number g q s.views views' id v.seen v.stage k.at_stage;
              in_role = subst (λ (x : Role E). IsInRole number q views' id (taking_in l.number l.seen x)) (sym is)
                  (role.0, role.1 ∙ sym long, All-append (IsRemembered number q views' id) js (new ∷ []) (λ i d h. kept (get_or js i d) (role.2 i d h)) (All-cons (IsRemembered number q views' id) new [] added (All-nil (IsRemembered number q views' id))));
            }))
            (λ (u : (j ≢ id) × (get_elem? s.views j ≡ some x)). ⊎_elim (λ (z : x ≡ spent_view). inl z) (λ (y : IsSeated number q s.views j g x). inr record {
              number_is = y.number_is;
              basis_is = y.basis_is;
              saw = y.saw;
              at_stage = stage_same number g q s.views views' j x.seen x.stage y.at_stage;
              in_role = plain_else number g q s.views views' j x.role (λ z. u.0 (z ∙ sym role.0)) y.in_role;
            }) (r.seats j x u.1))
            (at_set s.views id j w x t.1))
            (at_set vs other j spent_view x e);
      }
