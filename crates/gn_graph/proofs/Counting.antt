-- How many units of each kind were found, and whether they are too many.
use Rattle.std.proofs.Common.{◌≡◌, ℕ, zero, suc, ◌+◌, ◌<◌, ◌≤◌, ltb, List, [], ◌∷◌, ◌++◌, length, take, map, Bool}
use Rattle.std.proofs.Common.{true, false, cond, ◌||◌, Some, slice_get, refl, sym, ◌∙◌, ap, subst, ◌↔◌, inl, inr, filter, arith}
use Rattle.std.specs.List.{IsDistinct, AllByRecursion}
use Rattle.std.specs.Set.{is_member}
use Rattle.std.specs.Cmp.{IsEquivalence, both_ways}
use Rattle.std.proofs.lemmas.List.{take_more, length-append, take-append-le, length-take-le}
use Rattle.std.proofs.lemmas.Option.{get_or_from_slice_get, slice_get_within}
use Rattle.std.proofs.lemmas.Map.Made.{length-le_from_is_member}
use Rattle.std.proofs.Math.Bool.{or-true}
use Rattle.std.proofs.lemmas.Bool.{or_cases, false_from_ne_true, ltb-true, lt-ltb}
use Rattle.gn_closure.specs.Closure.{In}
use Rattle.gn_closure.specs.Reach.{Unit_key, Units, Fact, Is_reached, Holds}
use Rattle.gn_closure.specs.Ground.{Step, Holding}
use Rattle.gn_closure.specs.Computed.{is_reached, same_step, is_load, is_setup, load_limit, setup_limit, is_too_large}
use Rattle.gn_closure.specs.Least.{IsLoad, IsSetup, ReachesMore}
use Rattle.gn_closure.proofs.Least.{IsKind, load_kind, setup_kind, unit_in, distinct_units, long_units, named_units, kind_at, distinct_steps, long_steps, named_steps, limits_exact}
use Rattle.gn_closure.proofs.SameStep.{step_is, step_tested}
use Rattle.gn_graph.specs.Needs.{home}
use Rattle.gn_graph.specs.Numbers.{IsTable}
use Rattle.gn_graph.specs.declared.counts.Counts.{Counts}
use Rattle.gn_graph.specs.Counts.{count_of, AreCounts, one_more}

-- one more fact
filter_more : (kind : Step → Bool) (xs : List Step) (s : Step) → count_of kind (xs ++ s ∷ []) ≡ count_of kind xs + cond (kind s) 1 0
filter_more kind [] s = by (kind s)
  where
    by : (b : Bool) → length (cond b (s ∷ []) []) ≡ 0 + cond b 1 0
    by true = refl
    by false = refl
filter_more kind (x ∷ xs) s = by (kind x) (filter_more kind xs s)
  where
    by : (b : Bool) → count_of kind (xs ++ s ∷ []) ≡ count_of kind xs + cond (kind s) 1 0
        → length (cond b (x ∷ filter kind (xs ++ s ∷ [])) (filter kind (xs ++ s ∷ []))) ≡ length (cond b (x ∷ filter kind xs) (filter kind xs)) + cond (kind s) 1 0
    by true h = omega (arith, h)
    by false h = h

pub count_more : (kind : Step → Bool) (xs : List Step) (k : ℕ) (s : Step) → slice_get xs k ≡ Some s → count_of kind (take (k + 1) xs) ≡ count_of kind (take k xs) + cond (kind s) 1 0
count_more kind xs k s e =
    ap (count_of kind) (take_more xs k s (slice_get_within xs k s e) ∙ ap (λ (z : Step). take k xs ++ z ∷ []) (get_or_from_slice_get xs k s s e)) ∙ filter_more kind (take k xs) s

few : (kind : Step → Bool) (xs : List Step) → count_of kind xs ≤ length xs
few kind [] = omega arith
few kind (x ∷ xs) = by (kind x) (few kind xs)
  where
    by : (b : Bool) → count_of kind xs ≤ length xs → length (cond b (x ∷ filter kind xs) (filter kind xs)) ≤ suc (length xs)
    by true h = omega (arith, h)
    by false h = omega (arith, h)

pub counts_below : (found : List Step) (c : Counts) → AreCounts found c → (c.loads ≤ c.seen) × (c.setups ≤ c.seen)
counts_below found c k =
    let l = length-take-le c.seen found k.within in
    (omega (arith, k.loads, l, few is_load (take c.seen found)), omega (arith, k.setups, l, few is_setup (take c.seen found)))

pub next_counts : (found : List Step) (c : Counts) (s : Step) → slice_get found c.seen ≡ Some s → AreCounts found c → AreCounts found (one_more c s)
next_counts found c s e k = record {
  within = let w = slice_get_within found c.seen s e in omega (arith, w);
  loads = ap (λ (z : ℕ). z + cond (is_load s) 1 0) k.loads ∙ sym (count_more is_load found c.seen s e);
  setups = ap (λ (z : ℕ). z + cond (is_setup s) 1 0) k.setups ∙ sym (count_more is_setup found c.seen s e);
}

-- facts behind those that were counted change no count
pub counts_kept : (old new rest : List Step) (c : Counts) → new ≡ old ++ rest → AreCounts old c → AreCounts new c
counts_kept old new rest c e k = record {
  within = omega (arith, ap length e, length-append old rest, k.within);
  loads = k.loads ∙ ap (count_of is_load) (sym (ap (take c.seen) e ∙ take-append-le c.seen old rest k.within));
  setups = k.setups ∙ ap (count_of is_setup) (sym (ap (take c.seen) e ∙ take-append-le c.seen old rest k.within));
}

-- members of a filtered list
in_filter : (kind : Step → Bool) (xs : List Step) (s : Step) → In (filter kind xs) s → In xs s × (kind s ≡ true)
in_filter kind [] s i = absurd i
in_filter kind (x ∷ xs) s i = by (kind x) refl (in_filter kind xs s) i
  where
    by : (b : Bool) → kind x ≡ b → (In (filter kind xs) s → In xs s × (kind s ≡ true)) → In (cond b (x ∷ filter kind xs) (filter kind xs)) s → In (x ∷ xs) s × (kind s ≡ true)
    by true e h (inl f) = (inl f, ap kind (sym f) ∙ e)
    by true e h (inr j) = let q = h j in (inr q.0, q.1)
    by false e h j = let q = h j in (inr q.0, q.1)

filter_in : (kind : Step → Bool) (xs : List Step) (s : Step) → In xs s → kind s ≡ true → is_member same_step (filter kind xs) s ≡ true
filter_in kind [] s i k = absurd i
filter_in kind (x ∷ xs) s (inl f) k = by (kind x) (ap kind f ∙ k)
  where
    by : (b : Bool) → b ≡ true → is_member same_step (cond b (x ∷ filter kind xs) (filter kind xs)) s ≡ true
    by true e = ap (λ z. z || is_member same_step (filter kind xs) s) ((step_tested s x).1 (sym f))
    by false e = absurd (cc e)
filter_in kind (x ∷ xs) s (inr i) k = by (kind x) (filter_in kind xs s i k)
  where
    by : (b : Bool) → is_member same_step (filter kind xs) s ≡ true → is_member same_step (cond b (x ∷ filter kind xs) (filter kind xs)) s ≡ true
    by true h = ap (λ z. same_step s x || z) h ∙ or-true (same_step s x)
    by false h = h

apart_all : (s : Step) (xs : List Step) → ((i : ℕ) → slice_get xs i ≡ Some s → ⊥) → AllByRecursion (λ y. same_step s y ≡ false) xs
apart_all s [] f = tt
apart_all s (x ∷ xs) f = (false_from_ne_true (same_step s x) (λ e. f 0 (ap Some (sym ((step_tested s x).0 e)))), apart_all s xs (λ i. f (suc i)))

distinct : (xs : List Step) → IsTable xs → IsDistinct same_step xs
unfolding IsDistinct
distinct [] t = tt
distinct (x ∷ xs) t = (
  apart_all x xs (λ i e. let k : zero ≡ suc i = t zero (suc i) x refl e in absurd (omega (arith, k))),
  distinct xs (λ i j s a b. let k : suc i ≡ suc j = t (suc i) (suc j) s a b in omega (arith, k)),
)

apart_filter : (kind : Step → Bool) (s : Step) (xs : List Step) → AllByRecursion (λ y. same_step s y ≡ false) xs → AllByRecursion (λ y. same_step s y ≡ false) (filter kind xs)
apart_filter kind s [] d = tt
apart_filter kind s (x ∷ xs) d = by (kind x) (apart_filter kind s xs d.1)
  where
    by : (b : Bool) → AllByRecursion (λ y. same_step s y ≡ false) (filter kind xs) → AllByRecursion (λ y. same_step s y ≡ false) (cond b (x ∷ filter kind xs) (filter kind xs))
    by true h = (d.0, h)
    by false h = h

distinct_filter : (kind : Step → Bool) (xs : List Step) → IsDistinct same_step xs → IsDistinct same_step (filter kind xs)
unfolding IsDistinct
distinct_filter kind [] d = tt
distinct_filter kind (x ∷ xs) d = by (kind x) (apart_filter kind x xs d.0) (distinct_filter kind xs d.1)
  where
    by : (b : Bool) → AllByRecursion (λ y. same_step x y ≡ false) (filter kind xs) → IsDistinct same_step (filter kind xs) → IsDistinct same_step (cond b (x ∷ filter kind xs) (filter kind xs))
    by true a h = (a, h)
    by false a h = h

member_of : (xs : List Step) (s : Step) → is_member same_step xs s ≡ true → In xs s
member_of [] s m = absurd (cc m)
member_of (x ∷ xs) s m = by (same_step s x) refl (member_of xs s) m
  where
    by : (b : Bool) → same_step s x ≡ b → (is_member same_step xs s ≡ true → In xs s) → (b || is_member same_step xs s) ≡ true → In (x ∷ xs) s
    by true e h n = inl (sym ((step_tested s x).0 e))
    by false e h n = inr (h n)

same_own : (x y : Step) → x ≡ y → same_step x y ≡ true
same_own x y = (step_tested x y).1

step_equiv : IsEquivalence same_step
step_equiv = record {
  refl = λ x. same_own x x refl;
  symm = λ x y. both_ways (same_step x y) (same_step y x) (λ e. same_own y x (sym (step_is x y e))) (λ e. same_own x y (sym (step_is y x e)));
  congr = λ x y z e. ap (λ (w : Step). same_step w z) (step_is x y e);
}

module _ (a : Units) (found : List Step) (table : IsTable found) (whole : (f : Fact) → In found (Holding f) ↔ Holds home a f)
    (test : Step → Bool) (kind : Unit_key → Type 0) (is : IsKind test kind) (limit : ℕ) where
  too_many : ltb limit (count_of test found) ≡ true → ReachesMore kind home a limit
  too_many h =
      let xs : List Step = filter test found in
      let tests : (s : Step) → In xs s → test s ≡ true = λ s i. (in_filter test found s i).1 in (
        map unit_in xs,
        distinct_units home a test kind is xs tests (distinct_filter test found (distinct found table)),
        subst (λ (z : ℕ). limit < z) (sym (long_units home a test kind is xs)) (ltb-true limit (length xs) h),
        λ k i. let j = named_units home a test kind is xs tests k i in (kind_at home a test kind is k (tests (is_reached k) j), (whole (Is_reached k)).0 (in_filter test found (is_reached k) j).0),
      )

  so_many : ReachesMore kind home a limit → ltb limit (count_of test found) ≡ true
  so_many m =
      let few = length-le_from_is_member step_equiv (map is_reached m.0) (filter test found) (distinct_steps home a test kind is m.0 m.1)
      (λ q i. let w = named_steps home a test kind is m.0 q (member_of (map is_reached m.0) q i) in
      let k = m.3 w.0 w.1 in
      subst (λ (z : Step). is_member same_step (filter test found) z ≡ true) (sym w.2) (filter_in test found (is_reached w.0) ((whole (Is_reached w.0)).1 k.1) (is.back w.0 k.0))) in
      lt-ltb limit (count_of test found) (omega (arith, few, m.2, long_steps home a test kind is m.0))

pub limits_found : (a : Units) (found : List Step) → IsTable found → ((f : Fact) → In found (Holding f) ↔ Holds home a f)
    → (ltb load_limit (count_of is_load found) || ltb setup_limit (count_of is_setup found)) ≡ is_too_large home a
limits_found a found table whole = both_ways _ _ there back
  where
    left : (b c : Bool) → b ≡ true → (b || c) ≡ true
    left true c h = refl
    left false c h = absurd (cc h)

    right : (b c : Bool) → c ≡ true → (b || c) ≡ true
    right true c h = refl
    right false c h = h

    L : Bool
    L = ltb load_limit (count_of is_load found)

    S : Bool
    S = ltb setup_limit (count_of is_setup found)

    there : (L || S) ≡ true → is_too_large home a ≡ true
    there h = (limits_exact home a).1 (elim (or_cases L S h) [
      | inl x ↦ inl (too_many a found table whole is_load IsLoad load_kind load_limit x)
      | inr x ↦ inr (too_many a found table whole is_setup IsSetup setup_kind setup_limit x)
    ])

    back : is_too_large home a ≡ true → (L || S) ≡ true
    back h = elim ((limits_exact home a).0 h) [
      | inl x ↦ left L S (so_many a found table whole is_load IsLoad load_kind load_limit x)
      | inr x ↦ right L S (so_many a found table whole is_setup IsSetup setup_kind setup_limit x)
    ]
