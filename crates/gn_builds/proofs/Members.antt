-- Members of lists, and how many they are.
use Rattle.std.proofs.Common.{◌≡◌, inl, inr, ℕ, suc, ◌+◌, ◌≤◌, List, [], ◌∷◌, length, map, Option, Some, None, Bool, true, false, cond, refl, sym, ◌∙◌, ap, subst, arith, true≢false}
use Rattle.std.specs.Bool.{Decides}
use Rattle.std.specs.Prelude.{is_some}
use Rattle.std.specs.List.{filter, IsDistinct, AllByRecursion}
use Rattle.std.specs.Set.{is_member}
use Rattle.std.proofs.lemmas.Map.Made.{length-le_from_is_member}
use Rattle.gn_imports.specs.Projects.{IsOneOf}
use Rattle.gn_closure.specs.Closure.{In}
use Rattle.gn_closure.specs.Reach.{Unit_key}
use Rattle.gn_closure.specs.Computed.{same_unit}
use Rattle.gn_closure.proofs.Closed.{same_equiv, member_first, member_more, member_in}
use Rattle.gn_core.specs.Keys.{Key, Unit_of, same_key}
use Rattle.gn_core.proofs.Puts.{same_key_is, key_own}
use Rattle.gn_builds.specs.Driving.{one_if, count_of}
use Rattle.gn_builds.proofs.Counts.{IsOnce}

pub key_tested : (k q : Key) → Decides (same_key k q) (k ≡ q)
key_tested k q = (same_key_is k q, λ e. subst (λ z. same_key k z ≡ true) e (key_own k))

pub some_there : {A : Type 0} (x : Option A) → is_some x ≡ true → (v : A) × (x ≡ Some v)
some_there None e = absurd (true≢false (sym e))
some_there (Some v) e = (v, refl)

-- What was made of members

module _ {A B : Type 0} (f : A → B) where
  pub map_in : (xs : List A) (x : A) → In xs x → In (map f xs) (f x)
  map_in [] x i = absurd i
  map_in (y ∷ xs) x (inl e) = inl (ap f e)
  map_in (y ∷ xs) x (inr i) = inr (map_in xs x i)

  pub in_map : (xs : List A) (y : B) → In (map f xs) y → (x : A) × In xs x × (f x ≡ y)
  in_map [] y i = absurd i
  in_map (x ∷ xs) y (inl e) = (x, inl refl, e)
  in_map (x ∷ xs) y (inr i) = let m = in_map xs y i in (m.0, inr m.1, m.2)

  pub long_map : (xs : List A) → length (map f xs) ≡ length xs
  long_map [] = refl
  long_map (x ∷ xs) = ap suc (long_map xs)

pub map_both : {A B C : Type 0} (f : B → C) (g : A → B) (xs : List A) → map f (map g xs) ≡ map (λ x. f (g x)) xs
map_both f g [] = refl
map_both f g (x ∷ xs) = λ i. f (g x) ∷ map_both f g xs i

pub map_same : {A B : Type 0} (f g : A → B) (xs : List A) → ((x : A) → In xs x → f x ≡ g x) → map f xs ≡ map g xs
map_same f g [] same = refl
map_same f g (x ∷ xs) same = λ i. same x (inl refl) i ∷ map_same f g xs (λ y j. same y (inr j)) i

pub none_in : {A : Type 0} (xs : List A) → ((x : A) → In xs x → ⊥) → xs ≡ []
none_in [] none = refl
none_in (x ∷ xs) none = absurd (none x (inl refl))

pub one_in : (ps : List (List ℕ)) (p : List ℕ) → IsOneOf p ps → In ps p
one_in [] p h = absurd h
one_in (q ∷ ps) p (inl e) = inl (sym e)
one_in (q ∷ ps) p (inr h) = inr (one_in ps p h)

pub in_one : (ps : List (List ℕ)) (p : List ℕ) → In ps p → IsOneOf p ps
in_one [] p h = absurd h
in_one (q ∷ ps) p (inl e) = inl (sym e)
in_one (q ∷ ps) p (inr h) = inr (in_one ps p h)

-- Members that pass a test

module _ {A : Type 0} (test : A → Bool) where
  pub filter_in : (xs : List A) (x : A) → In xs x → test x ≡ true → In (filter test xs) x
  filter_in [] x i h = absurd i
  filter_in (y ∷ xs) x i h = by (test y) refl i (λ j. filter_in xs x j h)
    where
      by : (b : Bool) → test y ≡ b → In (y ∷ xs) x → (In xs x → In (filter test xs) x) → In (cond b (y ∷ filter test xs) (filter test xs)) x
      by true e (inl k) ih = inl k
      by true e (inr j) ih = inr (ih j)
      by false e (inl k) ih = absurd (true≢false (sym h ∙ ap test (sym k) ∙ e))
      by false e (inr j) ih = ih j

  pub in_filter : (xs : List A) (x : A) → In (filter test xs) x → In xs x × (test x ≡ true)
  in_filter [] x i = absurd i
  in_filter (y ∷ xs) x i = by (test y) refl i (λ j. in_filter xs x j)
    where
      by : (b : Bool) → test y ≡ b → In (cond b (y ∷ filter test xs) (filter test xs)) x → (In (filter test xs) x → In xs x × (test x ≡ true)) → In (y ∷ xs) x × (test x ≡ true)
      by true e (inl k) ih = (inl k, ap test (sym k) ∙ e)
      by true e (inr j) ih = let m = ih j in (inr m.0, m.1)
      by false e j ih = let m = ih j in (inr m.0, m.1)

  all_pass : (P : A → Type 0) (xs : List A) → AllByRecursion P xs → AllByRecursion P (filter test xs)
  all_pass P [] h = tt
  all_pass P (x ∷ xs) h = by (test x) (all_pass P xs h.1)
    where
      by : (b : Bool) → AllByRecursion P (filter test xs) → AllByRecursion P (cond b (x ∷ filter test xs) (filter test xs))
      by true ih = (h.0, ih)
      by false ih = ih

  distinct_if : (same : A → A → Bool) (b : Bool) (x : A) (xs : List A) → AllByRecursion (λ y. same x y ≡ false) xs → IsDistinct same xs → IsDistinct same (cond b (x ∷ xs) xs)
  unfolding IsDistinct
  distinct_if same true x xs a d = (a, d)
  distinct_if same false x xs a d = d

  pub distinct_filter : (same : A → A → Bool) (xs : List A) → IsDistinct same xs → IsDistinct same (filter test xs)
  unfolding IsDistinct
  distinct_filter same [] d = tt
  distinct_filter same (x ∷ xs) d = distinct_if same (test x) x (filter test xs) (all_pass (λ y. same x y ≡ false) xs d.0) (distinct_filter same xs d.1)

pub counted : (test : Key → Bool) (ks : List Key) → count_of test ks ≡ length (filter test ks)
counted test [] = refl
counted test (k ∷ ks) = by (test k) (counted test ks)
  where
    by : (b : Bool) → count_of test ks ≡ length (filter test ks) → one_if b + count_of test ks ≡ length (cond b (k ∷ filter test ks) (filter test ks))
    by true e = omega (arith, e)
    by false e = omega (arith, e)

-- How many members differ

module _ {A : Type 0} (same : A → A → Bool) (tested : (a b : A) → Decides (same a b) (a ≡ b)) where
  pub in_member : (xs : List A) (q : A) → In xs q → is_member same xs q ≡ true
  in_member [] q i = absurd i
  in_member (x ∷ xs) q (inl e) = subst (λ z. is_member same (x ∷ xs) z ≡ true) e (member_first same tested x xs)
  in_member (x ∷ xs) q (inr i) = member_more same tested x xs q (in_member xs q i)

  -- a list whose members differ is no longer than one that has them all
  pub no_longer : (xs ys : List A) → IsDistinct same xs → ((x : A) → In xs x → In ys x) → length xs ≤ length ys
  no_longer xs ys d f = length-le_from_is_member (same_equiv same tested) xs ys d (λ q m. in_member ys q (f q (member_in same tested xs q m)))

  pub as_long : (xs ys : List A) → IsDistinct same xs → IsDistinct same ys → ((x : A) → In xs x → In ys x) → ((x : A) → In ys x → In xs x) → length xs ≡ length ys
  as_long xs ys d e f g = let up = no_longer xs ys d f in let down = no_longer ys xs e g in omega (arith, up, down)

-- keys that stand once
apart_keys : (k : Key) (ks : List Key) → (In ks k → ⊥) → AllByRecursion (λ y. same_key k y ≡ false) ks
apart_keys k [] none = tt
apart_keys k (q ∷ ks) none = (differ (same_key k q) refl, apart_keys k ks (λ i. none (inr i)))
  where
    differ : (b : Bool) → same_key k q ≡ b → b ≡ false
    differ true e = absurd (none (inl (sym (same_key_is k q e))))
    differ false e = refl

pub once_distinct : (ks : List Key) → IsOnce ks → IsDistinct same_key ks
unfolding IsDistinct
once_distinct [] o = tt
once_distinct (k ∷ ks) o = (apart_keys k ks o.0, once_distinct ks o.1)

-- units and their keys
units_apart : (u : Unit_key) (us : List Unit_key) → AllByRecursion (λ y. same_unit u y ≡ false) us → AllByRecursion (λ y. same_key (Unit_of u) y ≡ false) (map Unit_of us)
units_apart u [] h = tt
units_apart u (v ∷ us) h = (h.0, units_apart u us h.1)

pub distinct_keys : (us : List Unit_key) → IsDistinct same_unit us → IsDistinct same_key (map Unit_of us)
unfolding IsDistinct
distinct_keys [] h = tt
distinct_keys (u ∷ us) h = (units_apart u us h.0, distinct_keys us h.1)

keys_apart : (u : Unit_key) (us : List Unit_key) → AllByRecursion (λ y. same_key (Unit_of u) y ≡ false) (map Unit_of us) → AllByRecursion (λ y. same_unit u y ≡ false) us
keys_apart u [] h = tt
keys_apart u (v ∷ us) h = (h.0, keys_apart u us h.1)

pub distinct_units : (us : List Unit_key) → IsDistinct same_key (map Unit_of us) → IsDistinct same_unit us
unfolding IsDistinct
distinct_units [] h = tt
distinct_units (u ∷ us) h = (keys_apart u us h.0, distinct_units us h.1)
