-- Steps of a plan.
use Rattle.std.proofs.Common.{◌≡◌, ℕ, zero, suc, ◌+◌, ◌<◌, ◌≤◌, List, [], ◌∷◌, ◌++◌, length, take, drop, get_or, map, Bool, true}
use Rattle.std.proofs.Common.{false, ◌||◌, Some, slice_get, refl, sym, ◌∙◌, ap, subst, ◌⊎◌, inl, inr, nat_eq, eq-eqb, eqb-true, arith}
use Rattle.std.proofs.Math.Seq.{drop-append_seam}
use Rattle.std.proofs.lemmas.List.{append_assoc, append-nil, take-append-le, take_all, length-append, length-map}
use Rattle.std.specs.List.{IsDistinct}
use Rattle.std.specs.Cmp.{nat_eq_equiv}
use Rattle.std.proofs.lemmas.Map.Made.{length-le_from_is_member}
use Rattle.indexmap.proofs.MapLemmas.{distinct-drop}
use Rattle.gn_closure.specs.Closure.{Horn}
use Rattle.gn_graph.specs.Clauses.{has, Follows, held, rule}
use Rattle.gn_graph.specs.Plans.{AllIn, IsUsed, HaveFired, Fired, same, more, FiredAll, Plan, IsPlan}
use Rattle.gn_graph.proofs.Has.{or_true, or_false, either, has_own, has-append, has-take_more, has-left, has-right, has_in_take, before_apart}

pub push_cases : (old : List ℕ) (g q : ℕ) → has (old ++ g ∷ []) q ≡ true → (has old q ≡ true) ⊎ (q ≡ g)
push_cases old g q m = elim (either (has old q) (nat_eq q g || false) (sym (has-append old (g ∷ []) q) ∙ m)) [ inl a ↦ inl a | inr b ↦ inr (eqb-true q g (sym (or_false (nat_eq q g)) ∙ b)) ]

has_last : (old : List ℕ) (g : ℕ) → has (old ++ g ∷ []) g ≡ true
has_last old g = has-right old (g ∷ []) g (has_own g [])

gives_in : (rs : List (Horn ℕ)) (i : ℕ) (r : Horn ℕ) → slice_get rs i ≡ Some r → has (map (λ r. r.gives) rs) r.gives ≡ true
gives_in [] i r e = absurd (cc e)
gives_in (x ∷ rs) zero r e = let s : x ≡ r = cc e in ap (λ b. b || has (map (λ r. r.gives) rs) r.gives) (eq-eqb r.gives x.gives (ap (λ (z : Horn ℕ). z.gives) (sym s)))
gives_in (x ∷ rs) (suc i) r e = ap (λ b. nat_eq r.gives x.gives || b) (gives_in rs i r e) ∙ or_true (nat_eq r.gives x.gives)

follows_on : (rs : List (Horn ℕ)) (base mid : List ℕ) → ((f : ℕ) → has mid f ≡ true → Follows rs base f) → (f : ℕ) → Follows rs mid f → Follows rs base f
follows_on rs base mid m f (held g e) = m g e
follows_on rs base mid m f (rule i r g ri e all) = rule i r g ri e (λ p n. follows_on rs base mid m p (all p n))

pub none_fired : (rs : List (Horn ℕ)) (seen : ℕ → Type 0) (old : List ℕ) → ((i : ℕ) → seen i → ⊥) → FiredAll rs seen old old
none_fired rs seen old none = record {
  rest = [];
  grows = sym (append-nil old);
  sound = λ f m. held f m;
  listed = λ f m. absurd (cc m);
  done = λ i r m. absurd (none i m);
}

-- the rules seen before, and one more
pub one_fired : (rs : List (Horn ℕ)) (seen seen' : ℕ → Type 0) (old mid new : List ℕ) (k : ℕ)
    → ((i : ℕ) → seen' i → (seen i) ⊎ (i ≡ k))
    → FiredAll rs seen old mid → Fired (slice_get rs k) mid new → FiredAll rs seen' old new
one_fired rs seen seen' old mid new k sees s (same e c) = record {
  rest = s.rest;
  grows = e ∙ s.grows;
  sound = λ f m. s.sound f (ap (λ (z : List ℕ). has z f) (sym e) ∙ m);
  listed = s.listed;
  done = λ i r m ri all. ap (λ (z : List ℕ). has z r.gives) e ∙ at i r ri all (sees i m);
}
  where
    later : (q : ℕ) → has old q ≡ true → has mid q ≡ true
    later q m = ap (λ (z : List ℕ). has z q) s.grows ∙ has-left old s.rest q m

    at : (i : ℕ) (r : Horn ℕ) → slice_get rs i ≡ Some r → AllIn old r.needs → (seen i) ⊎ (i ≡ k) → has mid r.gives ≡ true
    at i r ri all (inl m) = s.done i r m ri all
    at i r ri all (inr m) = c r (ap (slice_get rs) (sym m) ∙ ri) (λ p n. later p (all p n))
one_fired rs seen seen' old mid new k sees s (more r o all e) = record {
  rest = s.rest ++ r.gives ∷ [];
  grows = e ∙ ap (λ (z : List ℕ). z ++ r.gives ∷ []) s.grows ∙ append_assoc old s.rest (r.gives ∷ []);
  sound = λ f m. elim (push_cases mid r.gives f (ap (λ (z : List ℕ). has z f) (sym e) ∙ m)) [
    | inl a ↦ s.sound f a
    | inr g ↦ rule k r f o (sym g) (λ n w. s.sound n (all n w))
  ];
  listed = λ f m. elim (push_cases s.rest r.gives f m) [
    | inl a ↦ s.listed f a
    | inr g ↦ ap (has (map (λ r. r.gives) rs)) g ∙ gives_in rs k r o
  ];
  done = λ i t m ti al. ap (λ (z : List ℕ). has z t.gives) e ∙ at i t ti al (sees i m);
}
  where
    at : (i : ℕ) (t : Horn ℕ) → slice_get rs i ≡ Some t → AllIn old t.needs → (seen i) ⊎ (i ≡ k) → has (mid ++ r.gives ∷ []) t.gives ≡ true
    at i t ti al (inl m) = has-left mid (r.gives ∷ []) t.gives (s.done i t m ti al)
    at i t ti al (inr m) =
        let u : slice_get rs k ≡ Some t = ap (slice_get rs) (sym m) ∙ ti in
        let v : r ≡ t = cc (o, u) in
        ap (λ (z : Horn ℕ). has (mid ++ r.gives ∷ []) z.gives) (sym v) ∙ has_last mid r.gives

-- ---- the plan
pub plan_begun : (rs : List (Horn ℕ)) (first : List ℕ) (k : ℕ) → HaveFired rs (take k first) first → k ≤ length first → Plan rs first first k
plan_begun rs first k c w = record {
  rest = [];
  grows = sym (append-nil first);
  sound = λ f m. held f m;
  closed = c;
  within = w;
  listed = λ f m. absurd (cc m);
}

-- all rules that use the fact at k are looked at
pub plan_step : (rs : List (Horn ℕ)) (u : ℕ → List ℕ) (first old new : List ℕ) (start k : ℕ) → IsUsed rs (take start first) u → start ≤ k → start ≤ length first → IsDistinct nat_eq old
    → Plan rs first old k → k < length old → FiredAll rs (λ i. has (u (get_or old k 0)) i ≡ true) old new → Plan rs first new (k + 1)
plan_step rs u first old new start k used b w once s l d = record {
  rest = s.rest ++ d.rest;
  grows = d.grows ∙ ap (λ (z : List ℕ). z ++ d.rest) s.grows ∙ append_assoc first s.rest d.rest;
  sound = λ g m. follows_on rs first old s.sound g (d.sound g m);
  closed = λ i r ri a. now i r ri a;
  within = omega (arith, ap length d.grows, length-append old d.rest, l);
  listed = λ g m. elim (either (has s.rest g) (has d.rest g) (sym (has-append s.rest d.rest g) ∙ m)) [ inl a ↦ s.listed g a | inr c ↦ d.listed g c ];
}
  where
    later : (q : ℕ) → has old q ≡ true → has new q ≡ true
    later q m = ap (λ (z : List ℕ). has z q) d.grows ∙ has-left old d.rest q m

    f : ℕ
    f = get_or old k 0

    -- it didn't hold at first
    apart : has (take start first) f ≡ false
    apart = ap (λ (z : List ℕ). has z f) (sym (ap (take start) s.grows ∙ take-append-le start first s.rest w)) ∙ before_apart old k once l start b

    seen : take (k + 1) new ≡ take (k + 1) old
    seen = ap (take (k + 1)) d.grows ∙ take-append-le (k + 1) old d.rest (omega (arith, l))

    -- a fact seen now was seen before, or is the one at k
    at : (q : ℕ) → has (take (k + 1) new) q ≡ true → (has (take k old) q ≡ true) ⊎ (q ≡ f)
    at q m = elim (either (has (take k old) q) (nat_eq q f) (sym (ap (λ (z : List ℕ). has z q) seen ∙ has-take_more old k q l) ∙ m)) [ inl a ↦ inl a | inr e ↦ inr (eqb-true q f e) ]

    up : (q : ℕ) → has (take (k + 1) new) q ≡ true → has old q ≡ true
    up q m = has_in_take (k + 1) old q (ap (λ (z : List ℕ). has z q) (sym seen) ∙ m)

    decide : (needs : List ℕ) → AllIn (take (k + 1) new) needs → AllIn (take k old) needs ⊎ (has needs f ≡ true)
    decide [] a = inl (λ p n. absurd (cc n))
    decide (y ∷ ys) a = go (at y (a y (has_own y ys))) (decide ys (λ p n. a p (ap (λ b. nat_eq p y || b) n ∙ or_true (nat_eq p y))))
      where
        go : (has (take k old) y ≡ true) ⊎ (y ≡ f) → AllIn (take k old) ys ⊎ (has ys f ≡ true) → AllIn (take k old) (y ∷ ys) ⊎ (has (y ∷ ys) f ≡ true)
        go (inr e) r = inr (ap (λ b. b || has ys f) (eq-eqb f y (sym e)))
        go (inl c) (inr r) = inr (ap (λ z. nat_eq f y || z) r ∙ or_true (nat_eq f y))
        go (inl c) (inl r) = inl (λ p n. pick p (nat_eq p y) refl n)
          where
            pick : (p : ℕ) (e : Bool) → nat_eq p y ≡ e → (e || has ys p) ≡ true → has (take k old) p ≡ true
            pick p true e n = ap (has (take k old)) (eqb-true p y e) ∙ c
            pick p false e n = r p n

    now : (i : ℕ) (r : Horn ℕ) → slice_get rs i ≡ Some r → AllIn (take (k + 1) new) r.needs → has new r.gives ≡ true
    now i r ri a = elim (decide r.needs a) [
      | inl c ↦ later r.gives (s.closed i r ri c)
      | inr n ↦ d.done i r (used i r f ri n apart) ri (λ p m. up p (a p m))
    ]

-- at the end
pub plan_done : (rs : List (Horn ℕ)) (first new : List ℕ) (k : ℕ) → Plan rs first new k → length new ≤ k → IsDistinct nat_eq new → IsPlan rs first new
plan_done rs first new k s l d = record {
  rest = s.rest;
  grows = s.grows;
  sound = s.sound;
  closed = λ i r ri a. s.closed i r ri (λ p n. ap (λ (z : List ℕ). has z p) (take_all k new l) ∙ a p n);
  once = d;
}

pub few_new : (rs : List (Horn ℕ)) (first new : List ℕ) (k : ℕ) → IsDistinct nat_eq new → Plan rs first new k → length new ≤ length first + length rs
few_new rs first new k d s =
    let e : drop (length first) new ≡ s.rest = ap (drop (length first)) s.grows ∙ drop-append_seam first s.rest in
    let once : IsDistinct nat_eq s.rest = subst (λ (z : List ℕ). IsDistinct nat_eq z) e (distinct-drop nat_eq_equiv (length first) new d) in
    let l = length-le_from_is_member nat_eq_equiv s.rest (map (λ r. r.gives) rs) once s.listed in
    omega (arith, l, length-map rs (λ r. r.gives), ap length s.grows, length-append first s.rest)

-- a rule of a list with one more stands in the list, or is the one
pub last_or : (rs : List (Horn ℕ)) (x : Horn ℕ) (j : ℕ) (r : Horn ℕ) → slice_get (rs ++ x ∷ []) j ≡ Some r → (slice_get rs j ≡ Some r) ⊎ ((j ≡ length rs) × (x ≡ r))
last_or [] x zero r h = inr (refl, cc h)
last_or [] x (suc j) r h = absurd (cc h)
last_or (y ∷ rs) x zero r h = inl h
last_or (y ∷ rs) x (suc j) r h = elim (last_or rs x j r h) [ inl a ↦ inl a | inr b ↦ inr (ap suc b.0, b.1) ]

-- one more rule, and its uses
pub used_more : (rs : List (Horn ℕ)) (x : Horn ℕ) (found : List ℕ) (u v : ℕ → List ℕ) → IsUsed rs found u → ((q j : ℕ) → has (u q) j ≡ true → has (v q) j ≡ true)
    → ((p : ℕ) → has x.needs p ≡ true → has found p ≡ false → has (v p) (length rs) ≡ true) → IsUsed (rs ++ x ∷ []) found v
used_more rs x found u v used kept own i r p e n m = elim (last_or rs x i r e) [
  | inl a ↦ kept p i (used i r p a n m)
  | inr b ↦ ap (has (v p)) b.0 ∙ own p (ap (λ (z : Horn ℕ). has z.needs p) b.1 ∙ n) m
]
