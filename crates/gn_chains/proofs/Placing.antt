-- The state of the placing.
use Rattle.std.proofs.Common.{◌≡◌, ℕ, zero, suc, ◌+◌, ◌-◌, ◌<◌, ◌≤◌, List, [], ◌∷◌, ◌++◌, length, take, Bool, true, false, cond, not, ◌||◌, ◌&&◌, Option, Some, None, IfSome, slice_get, refl, sym, ◌∙◌, ap, subst, ◌⊎◌, inl, inr, nat_eq, eq-eqb, eqb-true, arith}
use Rattle.std.specs.List.{IsDistinct, AllByRecursion}
use Rattle.std.specs.Cmp.{nat_eq_equiv}
use Rattle.std.proofs.lemmas.Bool.{cases_lt}
use Rattle.std.proofs.lemmas.Bool.Decides.{nat_tests}
use Rattle.std.proofs.lemmas.List.{length-append, take-append-le, take_at}
use Rattle.std.proofs.lemmas.List.Sums.{sum_by-cons}
use Rattle.std.proofs.lemmas.Map.Keys.{IsDistinct-head, IsDistinct-tail, IsDistinct-push}
use Rattle.gn_dependencies.specs.Order.{IsLeastReady}
use Rattle.gn_dependencies.proofs.OrderLaws.{within as place_within}
use Rattle.gn_chains.specs.Numbers.{among, NumbersEnd}
use Rattle.gn_chains.specs.Counts.{open_count, count_at, is_zero, lessened}
use Rattle.gn_chains.proofs.Among.{among_own, among-push, or_true, or_false}
use Rattle.gn_dependencies.proofs.At.{was_at, last_at, one_there}

-- what the list has
abbrev pub Listed : List ℕ → ℕ → Type 0
Listed ws q = among ws q ≡ true

-- one of the list that counts
abbrev share : (ℕ → List ℕ) → List ℕ → ℕ → ℕ → ℕ
share g placed q z = cond (not (among placed z) && among (g z) q) 1 0

open_cons : (g : ℕ → List ℕ) (placed : List ℕ) (q z : ℕ) (ws : List ℕ) → open_count g (z ∷ ws) placed q ≡ share g placed q z + open_count g ws placed q
open_cons g placed q z ws = sum_by-cons (share g placed q) z ws

-- ---- no dependents
pub zero_open : (g : ℕ → List ℕ) (placed : List ℕ) (q z : ℕ) (ws : List ℕ) → open_count g ws placed q ≡ 0 → among ws z ≡ true → among (g z) q ≡ true → among placed z ≡ true
zero_open g placed q z [] h w d = absurd (cc w)
zero_open g placed q z (x ∷ ws) h w d = go (nat_eq z x) refl (λ k i. zero_open g placed q z ws k i d) w
  where
    sum : share g placed q x + open_count g ws placed q ≡ 0
    sum = sym (open_cons g placed q x ws) ∙ h

    at : (p : Bool) → among placed z ≡ p → share g placed q z ≡ 0 → among placed z ≡ true
    at true e s = e
    at false e s = let f : cond (not false && true) 1 0 ≡ 0 = sym (ap (λ b. cond (not b && among (g z) q) 1 0) e ∙ ap (λ b. cond (not false && b) 1 0) d) ∙ s in absurd (omega (arith, f))

    go : (b : Bool) → nat_eq z x ≡ b → (open_count g ws placed q ≡ 0 → among ws z ≡ true → among placed z ≡ true) → (b || among ws z) ≡ true → among placed z ≡ true
    go true e ih i = at (among placed z) refl (ap (share g placed q) (eqb-true z x e) ∙ omega (arith, sum))
    go false e ih i = ih (omega (arith, sum)) i

pub open_zero : (g : ℕ → List ℕ) (placed : List ℕ) (q : ℕ) (ws : List ℕ) → ((z : ℕ) → among ws z ≡ true → among (g z) q ≡ true → among placed z ≡ true) → open_count g ws placed q ≡ 0
open_zero g placed q [] h = refl
open_zero g placed q (x ∷ ws) h =
    let none : share g placed q x ≡ 0 = go (among (g x) q) refl in
    let less = open_zero g placed q ws (λ z i d. h z (ap (λ b. nat_eq z x || b) i ∙ or_true (nat_eq z x)) d) in
    omega (arith, none, less, open_cons g placed q x ws)
  where
    and_false : (b : Bool) → (b && false) ≡ false
    and_false true = refl
    and_false false = refl

    go : (b : Bool) → among (g x) q ≡ b → share g placed q x ≡ 0
    go true e = ap (λ b. cond (not b && among (g x) q) 1 0) (h x (among_own x ws) e)
    go false e = ap (λ b. cond (not (among placed x) && b) 1 0) e ∙ ap (λ b. cond b 1 0) (and_false (not (among placed x)))

-- an unplaced dependent, where there is one
some_by : (g : ℕ → List ℕ) (placed : List ℕ) (q x : ℕ) (ws : List ℕ) → 0 < open_count g (x ∷ ws) placed q
    → (0 < open_count g ws placed q → (z : ℕ) × (among ws z ≡ true) × (among (g z) q ≡ true) × (among placed z ≡ false))
    → (z : ℕ) × (among (x ∷ ws) z ≡ true) × (among (g z) q ≡ true) × (among placed z ≡ false)
some_by g placed q x ws h ih = go (among placed x) (among (g x) q) refl refl
  where
    later : share g placed q x ≡ 0 → (z : ℕ) × (among (x ∷ ws) z ≡ true) × (among (g z) q ≡ true) × (among placed z ≡ false)
    later s = let r = ih (omega (arith, s, h, open_cons g placed q x ws)) in (r.0, ap (λ b. nat_eq r.0 x || b) r.1 ∙ or_true (nat_eq r.0 x), r.2, r.3)

    go : (p d : Bool) → among placed x ≡ p → among (g x) q ≡ d → (z : ℕ) × (among (x ∷ ws) z ≡ true) × (among (g z) q ≡ true) × (among placed z ≡ false)
    go false true e f = (x, among_own x ws, f, e)
    go true d e f = later (ap (λ b. cond (not b && among (g x) q) 1 0) e)
    go false false e f = later (ap (λ b. cond (not b && among (g x) q) 1 0) e ∙ ap (λ b. cond (not false && b) 1 0) f)

pub open_some : (g : ℕ → List ℕ) (placed : List ℕ) (q : ℕ) (ws : List ℕ) → 0 < open_count g ws placed q → (z : ℕ) × (among ws z ≡ true) × (among (g z) q ≡ true) × (among placed z ≡ false)
open_some g placed q [] h = absurd (omega (arith, h))
open_some g placed q (x ∷ ws) h = some_by g placed q x ws h (λ l. open_some g placed q ws l)

-- ---- one more placed
share_other : (g : ℕ → List ℕ) (out : List ℕ) (x q z : ℕ) → nat_eq z x ≡ false → share g (out ++ x ∷ []) q z ≡ share g out q z
share_other g out x q z e = ap (λ b. cond (not b && among (g z) q) 1 0) (among-push out x z ∙ ap (λ b. among out z || b) e ∙ or_false (among out z))

not_in_by : (x : ℕ) (ws : List ℕ) → AllByRecursion (λ y. nat_eq x y ≡ false) ws → among ws x ≡ false
not_in_by x [] h = refl
not_in_by x (y ∷ ws) h = ap (λ b. b || among ws x) h.0 ∙ not_in_by x ws h.1

same_without : (g : ℕ → List ℕ) (out : List ℕ) (x q : ℕ) (ws : List ℕ) → among ws x ≡ false → open_count g ws (out ++ x ∷ []) q ≡ open_count g ws out q
same_without g out x q [] h = refl
same_without g out x q (z ∷ ws) h =
    let p = neither (nat_eq x z) (among ws x) h in
    let a = share_other g out x q z (flip x z p.0) in
    let b = same_without g out x q ws p.1 in
    omega (arith, a, b, open_cons g (out ++ x ∷ []) q z ws, open_cons g out q z ws)
  where
    neither : (a b : Bool) → (a || b) ≡ false → (a ≡ false) × (b ≡ false)
    neither true b h = absurd (cc h)
    neither false b h = (refl, h)

    flip : (a b : ℕ) → nat_eq a b ≡ false → nat_eq b a ≡ false
    flip a b h = grind (arith, nat_tests)

pub open_less : (g : ℕ → List ℕ) (out : List ℕ) (x q : ℕ) (ws : List ℕ) → IsDistinct nat_eq ws → among ws x ≡ true → among out x ≡ false
    → open_count g ws out q ≡ open_count g ws (out ++ x ∷ []) q + cond (among (g x) q) 1 0
open_less g out x q [] d w u = absurd (cc w)
open_less g out x q (z ∷ ws) d w u = go (nat_eq x z) refl (λ i. open_less g out x q ws (IsDistinct-tail nat_eq z ws d) i u) w
  where
    own : (nat_eq x x ≡ true) → share g (out ++ x ∷ []) q x ≡ 0
    own e = ap (λ b. cond (not b && among (g x) q) 1 0) (among-push out x x ∙ ap (λ b. among out x || b) e ∙ or_true (among out x))

    was : share g out q x ≡ cond (among (g x) q) 1 0
    was = ap (λ b. cond (not b && among (g x) q) 1 0) u

    go : (b : Bool) → nat_eq x z ≡ b → (among ws x ≡ true → open_count g ws out q ≡ open_count g ws (out ++ x ∷ []) q + cond (among (g x) q) 1 0)
        → (b || among ws x) ≡ true → open_count g (z ∷ ws) out q ≡ open_count g (z ∷ ws) (out ++ x ∷ []) q + cond (among (g x) q) 1 0
    go true e ih i =
        let s = same_without g out x q ws (ap (among ws) (eqb-true x z e) ∙ not_in_by z ws (IsDistinct-head nat_eq z ws d)) in
        let a : share g (out ++ x ∷ []) q z ≡ 0 = ap (share g (out ++ x ∷ []) q) (sym (eqb-true x z e)) ∙ own (eq-eqb x x refl) in
        let b : share g out q z ≡ cond (among (g x) q) 1 0 = ap (share g out q) (sym (eqb-true x z e)) ∙ was in
        omega (arith, s, a, b, open_cons g (out ++ x ∷ []) q z ws, open_cons g out q z ws)
    go false e ih i =
        let r = ih i in
        let a = share_other g out x q z (flip x z e) in
        omega (arith, r, a, open_cons g (out ++ x ∷ []) q z ws, open_cons g out q z ws)
      where
        flip : (a b : ℕ) → nat_eq a b ≡ false → nat_eq b a ≡ false
        flip a b h = grind (arith, nat_tests)

-- ---- the state
pub record OrderState (g : ℕ → List ℕ) (first : ℕ → ℕ → Bool) (ws out : List ℕ) (counts : ℕ → Option ℕ) (ready : ℕ → Bool) : Type 0 where
  pub places : (k x : ℕ) → slice_get out k ≡ Some x → IsLeastReady nat_eq g first (Listed ws) (take k out) x
  pub counted : (q : ℕ) → counts q ≡ count_at g ws out q
  pub is_ready : (q : ℕ) → ready q ≡ (among ws q && (not (among out q) && nat_eq (open_count g ws out q) 0))
  pub settled : (q : ℕ) → among out q ≡ true → open_count g ws out q ≡ 0
  pub inside : (q : ℕ) → among out q ≡ true → among ws q ≡ true
  pub once : IsDistinct nat_eq out

no_twice : IsDistinct nat_eq []
unfolding IsDistinct
no_twice = tt

pub order_start : (g : ℕ → List ℕ) (first : ℕ → ℕ → Bool) (ws : List ℕ) (counts : ℕ → Option ℕ) (ready : ℕ → Bool)
    → ((q : ℕ) → counts q ≡ count_at g ws [] q) → ((q : ℕ) → ready q ≡ (among ws q && is_zero (counts q))) → OrderState g first ws [] counts ready
order_start g first ws counts ready hc hr = record {
  places = λ k x e. absurd (cc e);
  counted = hc;
  is_ready = λ q. hr q ∙ ap (λ (o : Option ℕ). among ws q && is_zero o) (hc q) ∙ go (among ws q) (open_count g ws [] q);
  settled = λ q h. absurd (cc h);
  inside = λ q h. absurd (cc h);
  once = no_twice;
}
  where
    go : (b : Bool) (n : ℕ) → (b && is_zero (cond b (Some n) None)) ≡ (b && (not false && nat_eq n 0))
    go true n = refl
    go false n = refl

three : (a b c : Bool) → (a && (not b && c)) ≡ true → (a ≡ true) × (b ≡ false) × (c ≡ true)
three true false true h = (refl, refl, refl)
three true false false h = absurd (cc h)
three true true c h = absurd (cc h)
three false b c h = absurd (cc h)

abbrev pub ReadyFacts : (ℕ → List ℕ) → List ℕ → List ℕ → ℕ → Type 0
ReadyFacts g ws out x = (among ws x ≡ true) × (among out x ≡ false) × (open_count g ws out x ≡ 0)

pub ready_facts : (g : ℕ → List ℕ) (first : ℕ → ℕ → Bool) (ws out : List ℕ) (counts : ℕ → Option ℕ) (ready : ℕ → Bool) (x : ℕ) → OrderState g first ws out counts ready → ready x ≡ true → ReadyFacts g ws out x
ready_facts g first ws out counts ready x s h = let p = three (among ws x) (among out x) (nat_eq (open_count g ws out x) 0) (sym (s.is_ready x) ∙ h) in (p.0, p.1, eqb-true _ 0 p.2)

-- what the call that lessens the counts requires
pub some_open : (g : ℕ → List ℕ) (first : ℕ → ℕ → Bool) (ws out : List ℕ) (counts : ℕ → Option ℕ) (ready : ℕ → Bool) (x : ℕ) → IsDistinct nat_eq ws → OrderState g first ws out counts ready → ReadyFacts g ws out x
    → (q : ℕ) → among (g x) q ≡ true → IfSome (counts q) (λ n. 0 < n)
some_open g first ws out counts ready x d s r q h = subst (λ (o : Option ℕ). IfSome o (λ n. 0 < n)) (sym (s.counted q)) (go (among ws q))
  where
    go : (b : Bool) → IfSome (cond b (Some (open_count g ws out q)) None) (λ n. 0 < n)
    go false = tt
    go true = let e = open_less g out x q ws d r.0 r.1 in
        let f : ◌≡◌ {A = ℕ} (cond (among (g x) q) 1 0) 1 = ap (λ b. cond b 1 0) h in
        omega (arith, e, f)

-- the new ready set at q
ready_by : (w o b e : Bool) (c c' : ℕ) (r r1 r' : Bool) → r ≡ (w && (not o && nat_eq c 0)) → c ≡ c' + cond b 1 0 → (o ≡ true → c ≡ 0)
    → (e ≡ true → (w ≡ true) × (o ≡ false) × (c ≡ 0)) → r1 ≡ cond e false r → r' ≡ (r1 || (b && is_zero (lessened b (cond w (Some c) None))))
    → r' ≡ (w && (not (o || e) && nat_eq c' 0))
ready_by false o b true c c' r r1 r' hr hc ho he h1 h' = absurd (cc ((he refl).0))
ready_by false o true false c c' r r1 r' hr hc ho he h1 h' = h' ∙ ap (λ z. z || false) (h1 ∙ hr)
ready_by false o false false c c' r r1 r' hr hc ho he h1 h' = h' ∙ ap (λ z. z || false) (h1 ∙ hr)
ready_by true o true true c c' r r1 r' hr hc ho he h1 h' = absurd (omega (arith, (he refl).2, hc))
ready_by true true false true c c' r r1 r' hr hc ho he h1 h' = h' ∙ ap (λ z. z || false) h1
ready_by true false false true c c' r r1 r' hr hc ho he h1 h' = h' ∙ ap (λ z. z || false) h1
ready_by true true true false c c' r r1 r' hr hc ho he h1 h' = absurd (omega (arith, ho refl, hc))
ready_by true false true false c c' r r1 r' hr hc ho he h1 h' =
    let a : nat_eq c 0 ≡ false = apart c c' hc in
    let n : c - 1 ≡ c' = omega (arith, hc) in
    h' ∙ ap (λ z. z || nat_eq (c - 1) 0) (h1 ∙ hr ∙ a) ∙ ap (λ z. nat_eq z 0) n
  where
    apart : (c c' : ℕ) → c ≡ c' + 1 → nat_eq c 0 ≡ false
    apart c c' h = grind (arith, nat_tests)
ready_by true true false false c c' r r1 r' hr hc ho he h1 h' = h' ∙ ap (λ z. z || false) (h1 ∙ hr)
ready_by true false false false c c' r r1 r' hr hc ho he h1 h' =
    let n : c ≡ c' = omega (arith, hc) in
    h' ∙ ap (λ z. z || false) (h1 ∙ hr) ∙ or_false (nat_eq c 0) ∙ ap (λ z. nat_eq z 0) n

counted_by : (w b : Bool) (c c' : ℕ) (o : Option ℕ) → c ≡ c' + cond b 1 0 → o ≡ lessened b (cond w (Some c) None) → o ≡ cond w (Some c') None
counted_by true b c c' o hc h = h ∙ ap Some (omega (arith, hc))
counted_by false b c c' o hc h = h

pub order_step : (g : ℕ → List ℕ) (first : ℕ → ℕ → Bool) (ws out : List ℕ) (counts counts' : ℕ → Option ℕ) (ready ready' : ℕ → Bool) (x : ℕ) → IsDistinct nat_eq ws → OrderState g first ws out counts ready
    → ready x ≡ true → ((y : ℕ) → ready y ≡ true → first y x ≡ false)
    → ((q : ℕ) → counts' q ≡ lessened (among (g x) q) (counts q))
    → ((q : ℕ) → ready' q ≡ (cond (nat_eq q x) false (ready q) || (among (g x) q && is_zero (counts' q))))
    → OrderState g first ws (out ++ x ∷ []) counts' ready'
order_step g first ws out counts counts' ready ready' x d s rx least hc hr = record {
  places = λ k y e. place k y (cases_lt k (length out)) e;
  counted = λ q. counted_by (among ws q) (among (g x) q) (open_count g ws out q) (open_count g ws (out ++ x ∷ []) q) (counts' q) (less q) (fallen q);
  is_ready = λ q. ready_by (among ws q) (among out q) (among (g x) q) (nat_eq q x) (open_count g ws out q) (open_count g ws (out ++ x ∷ []) q) (ready q) (cond (nat_eq q x) false (ready q)) (ready' q)
      (s.is_ready q) (less q) (s.settled q) (own q) refl
      (hr q ∙ ap (λ (o : Option ℕ). cond (nat_eq q x) false (ready q) || (among (g x) q && is_zero o)) (fallen q))
      ∙ ap (λ b. among ws q && (not b && nat_eq (open_count g ws (out ++ x ∷ []) q) 0)) (sym (among-push out x q));
  settled = λ q h. elim (either (among out q) (nat_eq q x) (sym (among-push out x q) ∙ h)) [
    | inl i ↦ omega (arith, less q, s.settled q i)
    | inr i ↦ let z : open_count g ws out q ≡ 0 = ap (open_count g ws out) (eqb-true q x i) ∙ r.2 in omega (arith, less q, z)
  ];
  inside = λ q h. elim (either (among out q) (nat_eq q x) (sym (among-push out x q) ∙ h)) [
    | inl i ↦ s.inside q i
    | inr i ↦ ap (among ws) (eqb-true q x i) ∙ r.0
  ];
  once = IsDistinct-push nat_eq_equiv out x s.once r.1;
}
  where
    r : ReadyFacts g ws out x
    r = ready_facts g first ws out counts ready x s rx

    less : (q : ℕ) → open_count g ws out q ≡ open_count g ws (out ++ x ∷ []) q + cond (among (g x) q) 1 0
    less q = open_less g out x q ws d r.0 r.1

    fallen : (q : ℕ) → counts' q ≡ lessened (among (g x) q) (count_at g ws out q)
    fallen q = hc q ∙ ap (lessened (among (g x) q)) (s.counted q)

    own : (q : ℕ) → nat_eq q x ≡ true → (among ws q ≡ true) × (among out q ≡ false) × (open_count g ws out q ≡ 0)
    own q e = let P : ℕ → Type 0 = ReadyFacts g ws out in subst P (sym (eqb-true q x e)) r

    either : (a b : Bool) → (a || b) ≡ true → (a ≡ true) ⊎ (b ≡ true)
    either true b h = inl refl
    either false b h = inr h

    now : IsLeastReady nat_eq g first (Listed ws) out x
    now = record {
      ready = record { inside = r.0; unplaced = r.1; after = λ z w e. zero_open g out x z ws r.2 w e };
      least = λ y i. least y (s.is_ready y ∙ all_three (among ws y) (among out y) (nat_eq (open_count g ws out y) 0) i.inside i.unplaced (eq-eqb _ 0 (open_zero g out y ws i.after)));
    }
      where
        all_three : (a b c : Bool) → a ≡ true → b ≡ false → c ≡ true → (a && (not b && c)) ≡ true
        all_three a b c e f h = rw (e, f, h) refl

    place : (k y : ℕ) → ((k < length out) ⊎ (length out ≤ k)) → slice_get (out ++ x ∷ []) k ≡ Some y → IsLeastReady nat_eq g first (Listed ws) (take k (out ++ x ∷ [])) y
    place k y (inl l) e =
        let a : take k (out ++ x ∷ []) ≡ take k out = take-append-le k out (x ∷ []) (omega (arith, l)) in
        subst (λ (z : List ℕ). IsLeastReady nat_eq g first (Listed ws) z y) (sym a) (s.places k y (was_at out (x ∷ []) k y l e))
    place k y (inr l) e =
        let h : k < length (out ++ x ∷ []) = place_within (out ++ x ∷ []) k y e in
        let n : length out ≡ k = omega (arith, l, h, length-append out (x ∷ [])) in
        let a : take k (out ++ x ∷ []) ≡ out = take_at out (x ∷ []) k n in
        let is : y ≡ x = one_there y x (sym e ∙ ap (slice_get (out ++ x ∷ [])) (sym n) ∙ last_at out x) in
        subst (λ (z : List ℕ). IsLeastReady nat_eq g first (Listed ws) z y) (sym a)
        (subst (λ (z : ℕ). IsLeastReady nat_eq g first (Listed ws) out z) (sym is) now)

-- ---- at the end
abbrev Unending : (ℕ → List ℕ) → List ℕ → List ℕ → ℕ → Type 0
Unending g ws out n = (z : ℕ) × (among ws z ≡ true) × (among out z ≡ false) × (NumbersEnd g n z → ⊥)

unending : (g : ℕ → List ℕ) (ws out : List ℕ) → ((q : ℕ) → among ws q ≡ true → among out q ≡ false → 0 < open_count g ws out q)
    → (q : ℕ) → among ws q ≡ true → among out q ≡ false → (n : ℕ) → Unending g ws out n
unending g ws out h q w u zero = (q, w, u, λ e. e)
unending g ws out h q w u (suc n) =
    let i = unending g ws out h q w u n in
    let z = open_some g out i.0 ws (h i.0 i.1 i.2) in
    (z.0, z.1, z.3, λ e. i.3 (e i.0 z.2))

pub order_done : (g : ℕ → List ℕ) (first : ℕ → ℕ → Bool) (ws out : List ℕ) (counts : ℕ → Option ℕ) (ready : ℕ → Bool) (n : ℕ) → OrderState g first ws out counts ready
    → ((q : ℕ) → ready q ≡ false) → ((q : ℕ) → among ws q ≡ true → NumbersEnd g n q) → (q : ℕ) → among ws q ≡ true → among out q ≡ true
order_done g first ws out counts ready n s none ends q w = go (among out q) refl
  where
    is_open : (q : ℕ) → among ws q ≡ true → among out q ≡ false → 0 < open_count g ws out q
    is_open q w u = more (open_count g ws out q) (sym (sym (none q) ∙ s.is_ready q ∙ ap (λ b. b && (not (among out q) && nat_eq (open_count g ws out q) 0)) w ∙ ap (λ b. not b && nat_eq (open_count g ws out q) 0) u))
      where
        more : (c : ℕ) → nat_eq c 0 ≡ false → 0 < c
        more c h = grind (arith, nat_tests)

    go : (b : Bool) → among out q ≡ b → among out q ≡ true
    go true e = e
    go false e = let z = unending g ws out is_open q w e n in absurd (z.3 (ends z.0 z.1))
