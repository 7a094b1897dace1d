-- How counts of keys change.
use Rattle.std.proofs.Common.{◌≡◌, ◌⊎◌, inl, inr, ℕ, zero, suc, slice_get, ◌+◌, ◌<◌, ◌≤◌, List, [], ◌∷◌, ◌++◌, Option, Some, None, Bool, true, false, not, ◌&&◌, ◌||◌, cond, refl, sym, ◌∙◌, ap, subst, arith, true≢false}
use Rattle.std.specs.List.{list_any}
use Rattle.std.proofs.lemmas.Bool.{or_left, or_right}
use Rattle.std.specs.Prelude.{is_some}
use Rattle.gn_closure.specs.Closure.{In}
use Rattle.gn_core.specs.Keys.{Layer, Key, Read, Import, Unit_of, Resolve, Answer, Filed, same_key, put}
use Rattle.gn_core.proofs.Puts.{same_key_is, key_own, put_own}
use Rattle.gn_builds.specs.Driving.{one_if, count_of, is_awaited, is_open, remaining}

pub in_more : (ks : List Key) (k q : Key) → In (ks ++ k ∷ []) q → In ks q ⊎ (k ≡ q)
in_more [] k q (inl e) = inr e
in_more [] k q (inr i) = absurd i
in_more (j ∷ ks) k q (inl e) = inl (inl e)
in_more (j ∷ ks) k q (inr i) = elim (in_more ks k q i) [ inl a ↦ inl (inr a) | inr a ↦ inr a ]

pub in_front : (xs ys : List Key) (q : Key) → In xs q → In (xs ++ ys) q
in_front (x ∷ xs) ys q (inl e) = inl e
in_front (x ∷ xs) ys q (inr i) = inr (in_front xs ys q i)
in_front [] ys q i = absurd i

pub in_new : (ks : List Key) (k : Key) → In (ks ++ k ∷ []) k
in_new [] k = inl refl
in_new (j ∷ ks) k = inr (in_new ks k)

pub any_in : (ks : List Key) (k : Key) → In ks k → list_any (same_key k) ks ≡ true
any_in (j ∷ ks) k (inl e) = or_left (same_key k j) (list_any (same_key k) ks) (ap (same_key k) e ∙ key_own k)
any_in (j ∷ ks) k (inr i) = or_right (same_key k j) (list_any (same_key k) ks) (any_in ks k i)
any_in [] k i = absurd i

pub any_at : (ks : List Key) (k : Key) (i : ℕ) → slice_get ks i ≡ Some k → list_any (same_key k) ks ≡ true
any_at [] k i e = absurd (cc e)
any_at (x ∷ ks) k zero e = let same : x ≡ k = cc e in or_left (same_key k x) (list_any (same_key k) ks) (ap (same_key k) same ∙ key_own k)
any_at (x ∷ ks) k (suc i) e = or_right (same_key k x) (list_any (same_key k) ks) (any_at ks k i e)

pub in_any : (ks : List Key) (k : Key) → list_any (same_key k) ks ≡ true → In ks k
in_any [] k e = absurd (true≢false (sym e))
in_any (j ∷ ks) k e = by (same_key k j) refl e (in_any ks k)
  where
    by : (b : Bool) → same_key k j ≡ b → (b || list_any (same_key k) ks) ≡ true → (list_any (same_key k) ks ≡ true → In ks k) → In (j ∷ ks) k
    by true s h ih = inl (sym (same_key_is k j s))
    by false s h ih = inr (ih h)

pub count_more : (test : Key → Bool) (ks : List Key) (k : Key) → count_of test (ks ++ k ∷ []) ≡ count_of test ks + one_if (test k)
count_more test [] k = omega arith
count_more test (j ∷ ks) k = let rest = count_more test ks k in omega (arith, rest)

pub count_same : (test other : Key → Bool) (ks : List Key) → ((q : Key) → In ks q → test q ≡ other q) → count_of test ks ≡ count_of other ks
count_same test other [] f = refl
count_same test other (j ∷ ks) f = let rest = count_same test other ks (λ q i. f q (inr i)) in let here = ap one_if (f j (inl refl)) in omega (arith, rest, here)

-- each key of a list once
abbrev pub IsOnce : List Key → Type 0
IsOnce [] = Unit {0}
IsOnce (k ∷ ks) = (In ks k → ⊥) × IsOnce ks

-- a test that holds of one key less
pub count_less : (test other : Key → Bool) (k : Key) → test k ≡ true → other k ≡ false → ((q : Key) → (k ≡ q → ⊥) → test q ≡ other q) → (ks : List Key) → IsOnce ks → In ks k → count_of test ks ≡ suc (count_of other ks)
count_less test other k holds fails same (j ∷ ks) once (inl e) =
    let rest = count_same test other ks (λ q i. same q (λ f. once.0 (subst (λ (z : Key). In ks z) (sym (e ∙ f)) i))) in
    let a : one_if (test j) ≡ 1 = ap (λ (z : Key). one_if (test z)) e ∙ ap one_if holds in
    let b : one_if (other j) ≡ 0 = ap (λ (z : Key). one_if (other z)) e ∙ ap one_if fails in
    omega (arith, rest, a, b)
count_less test other k holds fails same (j ∷ ks) once (inr i) =
    let rest = count_less test other k holds fails same ks once.1 i in
    let here = ap one_if (same j (λ f. once.0 (subst (λ (z : Key). In ks z) f i))) in
    omega (arith, rest, here)
count_less test other k holds fails same [] once i = absurd i

-- a key has its answer
open_less : (filed : Filed) (k : Key) (v : Answer) (ks : List Key) → filed k ≡ None → IsOnce ks → In ks k → count_of (is_open filed) ks ≡ suc (count_of (is_open (put filed k (Some v))) ks)
open_less filed k v ks none once i =
    count_less (is_open filed) (is_open (put filed k (Some v))) k (ap (λ (x : Option Answer). not (is_some x)) none) (ap (λ (x : Option Answer). not (is_some x)) (put_own filed k v)) other ks once i
  where
    other : (q : Key) → (k ≡ q → ⊥) → is_open filed q ≡ is_open (put filed k (Some v)) q
    other q apart = by (same_key k q) refl
      where
        by : (b : Bool) → same_key k q ≡ b → is_open filed q ≡ not (is_some (cond b (Some v) (filed q)))
        by true e = absurd (apart (same_key_is k q e))
        by false e = refl

pub settled_less : (layer : Layer) (room : ℕ) (names : List Key) (filed : Filed) (k : Key) (v : Answer) → filed k ≡ None → IsOnce names → In names k
    → remaining layer room names (put filed k (Some v)) < remaining layer room names filed
unfolding remaining
settled_less layer room names filed k v none once i = let less = open_less filed k v names none once i in omega (arith, less)

any_more : (names : List Key) (k q : Key) → list_any (same_key q) (names ++ k ∷ []) ≡ (list_any (same_key q) names || same_key q k)
any_more [] k q = last (same_key q k)
  where
    last : (b : Bool) → (b || false) ≡ (false || b)
    last true = refl
    last false = refl
any_more (j ∷ names) k q = ap (λ b. same_key q j || b) (any_more names k q) ∙ by (same_key q j)
  where
    by : (b : Bool) → (b || (list_any (same_key q) names || same_key q k)) ≡ ((b || list_any (same_key q) names) || same_key q k)
    by true = refl
    by false = refl

at_most_one : (b : Bool) → one_if b ≤ 1
at_most_one true = omega arith
at_most_one false = omega arith

or_none : (c : Bool) → (c || false) ≡ c
or_none true = refl
or_none false = refl

-- an import of a layer is claimed whose file was read
module _ (layer : Layer) (names : List Key) (path : List ℕ) where
  abbrev more : List Key
  more = names ++ Import layer path ∷ []

  module _ (new : list_any (same_key (Import layer path)) names ≡ false) (once : IsOnce names) (read : In names (Read path)) where
    awaited_other : (q : Key) → (Read path ≡ q → ⊥) → is_awaited layer names q ≡ is_awaited layer more q
    awaited_other (Read other) apart =
        sym (ap not (any_more names (Import layer path) (Import layer other) ∙ by (same_key (Import layer other) (Import layer path)) refl))
      where
        by : (b : Bool) → same_key (Import layer other) (Import layer path) ≡ b → (list_any (same_key (Import layer other)) names || b) ≡ list_any (same_key (Import layer other)) names
        by true e = let same : other ≡ path = cc (same_key_is (Import layer other) (Import layer path) e) in absurd (apart (ap Read (sym same)))
        by false e = or_none (list_any (same_key (Import layer other)) names)
    awaited_other (Import l other) apart = refl
    awaited_other (Unit_of unit) apart = refl
    awaited_other (Resolve label) apart = refl

    awaited_less : count_of (is_awaited layer names) names ≡ suc (count_of (is_awaited layer more) names)
    awaited_less =
        count_less (is_awaited layer names) (is_awaited layer more) (Read path) (ap not new)
        (ap not (any_in more (Import layer path) (in_new names (Import layer path)))) awaited_other names once read

pub import_less : (layer : Layer) (room : ℕ) (names : List Key) (path : List ℕ) → list_any (same_key (Import layer path)) names ≡ false → IsOnce names → In names (Read path) → (filed : Filed)
    → remaining layer room (names ++ Import layer path ∷ []) filed < remaining layer room names filed
unfolding remaining
import_less layer room names path new once read filed =
    let awaits = count_more (is_awaited layer (more layer names path)) names (Import layer path) in
    let opens = count_more (is_open filed) names (Import layer path) in
    let one = at_most_one (is_open filed (Import layer path)) in
    let fewer = awaited_less layer names path new once read in
    omega (arith, awaits, opens, one, fewer)

-- a file is to be read, or to be taken of those that were read before
module _ (names : List Key) (path : List ℕ) where
  abbrev longer : List Key
  longer = names ++ Read path ∷ []

  same_awaited : (layer : Layer) (q : Key) → is_awaited layer longer q ≡ is_awaited layer names q
  same_awaited layer (Read other) = ap not (any_more names (Read path) (Import layer other) ∙ or_none (list_any (same_key (Import layer other)) names))
  same_awaited layer (Import l other) = refl
  same_awaited layer (Unit_of unit) = refl
  same_awaited layer (Resolve label) = refl

  pub reading_less : (layer : Layer) (room : ℕ) (filed : Filed) → remaining layer room longer filed < remaining layer (suc room) names filed
  unfolding remaining
  reading_less layer room filed =
      let awaits = count_more (is_awaited layer longer) names (Read path) in
      let same = count_same (is_awaited layer longer) (is_awaited layer names) names (λ q i. same_awaited layer q) in
      let small = at_most_one (is_awaited layer longer (Read path)) in
      let opens = count_more (is_open filed) names (Read path) in
      let kept = at_most_one (is_open filed (Read path)) in
      omega (arith, awaits, same, small, opens, kept)

-- Keys of which each stands once in a list: what a test tells of them stands in another list

-- one key less
abbrev but_for : Key → (Key → Bool) → Key → Bool
but_for k test q = test q && not (same_key k q)

at_least_none : (b c : Bool) → one_if (b && not c) ≤ one_if b
at_least_none true true = omega arith
at_least_none true false = omega arith
at_least_none false c = omega arith

count_but_for : (test : Key → Bool) (k : Key) (ks : List Key) → count_of (but_for k test) ks ≤ count_of test ks
count_but_for test k [] = omega arith
count_but_for test k (j ∷ ks) = let rest = count_but_for test k ks in let here = at_least_none (test j) (same_key k j) in omega (arith, rest, here)

count_without : (test : Key → Bool) (k : Key) → test k ≡ true → (ks : List Key) → In ks k → suc (count_of (but_for k test) ks) ≤ count_of test ks
count_without test k holds (j ∷ ks) (inl e) =
    let rest = count_but_for test k ks in
    let a : one_if (test j) ≡ 1 = ap (λ (z : Key). one_if (test z)) e ∙ ap one_if holds in
    let b : one_if (but_for k test j) ≡ 0 = ap (λ (z : Key). one_if (but_for k test z)) e ∙ ap one_if (and_not (test k) (same_key k k) (key_own k)) in
    omega (arith, rest, a, b)
  where
    and_not : (c d : Bool) → d ≡ true → (c && not d) ≡ false
    and_not true d e = ap not e
    and_not false d e = refl
count_without test k holds (j ∷ ks) (inr i) =
    let rest = count_without test k holds ks i in
    let here = at_least_none (test j) (same_key k j) in
    omega (arith, rest, here)
count_without test k holds [] i = absurd i

-- what differs from a key passes that test too
still_passes : (test : Key → Bool) (k q : Key) → test q ≡ true → (k ≡ q → ⊥) → but_for k test q ≡ true
still_passes test k q holds apart = by (test q) (same_key k q) refl holds
  where
    by : (b c : Bool) → same_key k q ≡ c → b ≡ true → (b && not c) ≡ true
    by b true e h = absurd (apart (same_key_is k q e))
    by true false e h = refl
    by false false e h = absurd (true≢false (sym h))

pub count_among : (test other : Key → Bool) (xs ys : List Key) → IsOnce xs → ((q : Key) → In xs q → test q ≡ true → In ys q × (other q ≡ true)) → count_of test xs ≤ count_of other ys
count_among test other [] ys once f = omega arith
count_among test other (x ∷ xs) ys once f = by (test x) refl (λ other2 g. count_among test other2 xs ys once.1 g)
  where
    by : (b : Bool) → test x ≡ b → ((other2 : Key → Bool) → ((q : Key) → In xs q → test q ≡ true → In ys q × (other2 q ≡ true)) → count_of test xs ≤ count_of other2 ys)
        → one_if b + count_of test xs ≤ count_of other ys
    by true e later =
        let here = f x (inl refl) e in
        let rest = later (but_for x other) (λ q i t. (let there = f q (inr i) t in (there.0, still_passes other x q there.1 (λ same. once.0 (subst (λ (z : Key). In xs z) (sym same) i))))) in
        let less = count_without other x here.1 ys here.0 in
        omega (arith, rest, less)
    by false e later = let rest = later other (λ q i t. f q (inr i) t) in omega (arith, rest)

-- and one more key does
pub count_below : (test other : Key → Bool) (k : Key) (xs ys : List Key) → IsOnce xs → ((q : Key) → In xs q → test q ≡ true → In ys q × (other q ≡ true)) → In ys k → other k ≡ true → test k ≡ false
    → count_of test xs < count_of other ys
count_below test other k xs ys once f i holds fails =
    let rest = count_among test (but_for k other) xs ys once (λ q j t. (let there = f q j t in (there.0, still_passes other k q there.1 (λ same. true≢false (sym t ∙ ap test (sym same) ∙ fails))))) in
    let less = count_without other k holds ys i in
    omega (arith, rest, less)
