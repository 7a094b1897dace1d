-- The steps of loading by one seat keep its keys what they are.
use Rattle.std.proofs.Common.{◌≡◌, ◌⊎◌, inl, inr, ℕ, zero, suc, ◌<◌, List, [], ◌∷◌, ◌++◌, length, unwrap_or, Some, None, Bool, true, false, if◌then◌else◌, slice_get, refl, sym, ◌∙◌, ap, subst, true≢false, arith}
use Rattle.std.specs.List.{list_any}
use Rattle.gn_closure.specs.Closure.{In}
use Rattle.gn_labels.specs.declared.label.Label.{Label}
use Rattle.gn_core.specs.Keys.{Layer, Key, Read, Import, Unit_of, Resolve, Answer, Filed, same_key}
use Rattle.gn_core.specs.Machine.{State, Claim, File, happens, IsFiled}
use Rattle.gn_core.proofs.Puts.{put_some, put_has, put_own}
use Rattle.gn_book.specs.Graphs.{is_unit}
use Rattle.gn_book.specs.Logs.{Log, with_key}
use Rattle.gn_builds.specs.Driving.{IsOfKind, AreNamed}
use Rattle.gn_builds.proofs.Counts.{IsOnce, in_more, in_front, in_new, any_in, in_any}

-- a key that is one of a list stands at some number, and what stands at a number is one of the list
pub number_of : (xs : List Key) (q : Key) → In xs q → (n : ℕ) × (slice_get xs n ≡ Some q)
number_of (x ∷ xs) q (inl e) = (zero, ap Some e)
number_of (x ∷ xs) q (inr j) = let rest = number_of xs q j in (suc rest.0, rest.1)
number_of [] q j = absurd j

pub found_number : (ks : List Key) (n : ℕ) (k : Key) → slice_get ks n ≡ Some k → In ks k
found_number [] n k e = absurd (cc e)
found_number (x ∷ ks) zero k e = inl (cc e)
found_number (x ∷ ks) (suc n) k e = inr (found_number ks n k e)

pub in_at : (ks : List Key) (n : ℕ) → n < length ks → In ks (unwrap_or (slice_get ks n) (Read []))
in_at [] n less = absurd (omega (arith, less))
in_at (k ∷ ks) zero less = inl refl
in_at (k ∷ ks) (suc n) less = inr (in_at ks n (omega (arith, less)))

-- what stands at a number stands there still, whatever comes behind
pub get_more : (xs ys : List Key) (n : ℕ) (k : Key) → slice_get xs n ≡ Some k → slice_get (xs ++ ys) n ≡ Some k
get_more [] ys n k e = absurd (cc e)
get_more (x ∷ xs) ys zero k e = e
get_more (x ∷ xs) ys (suc n) k e = get_more xs ys n k e

-- no key has two numbers
next_apart : (k : Key) (ks : List Key) → ((i j : ℕ) (q : Key) → slice_get (k ∷ ks) i ≡ Some q → slice_get (k ∷ ks) j ≡ Some q → i ≡ j) → In ks k → ⊥
next_apart k ks differ i = let at = number_of ks k i in zero_suc at.0 (differ zero (suc at.0) k refl at.1)
  where
    zero_suc : (n : ℕ) → zero ≡ suc n → ⊥
    zero_suc n e = absurd (omega (arith, e))

pub once : (ks : List Key) → ((i j : ℕ) (q : Key) → slice_get ks i ≡ Some q → slice_get ks j ≡ Some q → i ≡ j) → IsOnce ks
once [] differ = tt
once (k ∷ ks) differ = (next_apart k ks differ, once ks (λ i j q a b. let same = differ (suc i) (suc j) q a b in omega (arith, same)))

-- one more key, unless it has a number
in_with_old : (l : Log) (k q : Key) → In l.keys q → In (with_key l k).keys q
in_with_old l k q i = by (list_any (same_key k) l.keys)
  where
    by : (b : Bool) → In (if b then l.keys else l.keys ++ k ∷ []) q
    by true = i
    by false = in_front l.keys (k ∷ []) q i

in_with_new : (l : Log) (k : Key) → In (with_key l k).keys k
in_with_new l k = by (list_any (same_key k) l.keys) refl
  where
    by : (b : Bool) → list_any (same_key k) l.keys ≡ b → In (if b then l.keys else l.keys ++ k ∷ []) k
    by true e = in_any l.keys k e
    by false e = in_new l.keys k

pub in_with : (l : Log) (k q : Key) → In (with_key l k).keys q → In l.keys q ⊎ (k ≡ q)
in_with l k q i = by (list_any (same_key k) l.keys) i
  where
    by : (b : Bool) → In (if b then l.keys else l.keys ++ k ∷ []) q → In l.keys q ⊎ (k ≡ q)
    by true j = inl j
    by false j = in_more l.keys k q j

-- a key that nobody has claimed and that has no answer is new, unless it is a unit
pub is_new : (l : Log) (s : State) (ks : List Key) (on : Key) → AreNamed l.keys s ks → is_unit on ≡ false → (In ks on → ⊥) → s.filed on ≡ None → list_any (same_key on) l.keys ≡ false
is_new l s ks on named unit apart none = by (list_any (same_key on) l.keys) refl
  where
    by : (b : Bool) → list_any (same_key on) l.keys ≡ b → b ≡ false
    by true e = elim (named.begun on (in_any l.keys on e) unit) [
      | inl i ↦ absurd (apart i)
      | inr f ↦ absurd (cc (sym none ∙ f.1))
    ]
    by false e = refl

-- what an import must be that gets a number
abbrev pub MayBeNamed : List Key → Key → Type 0
MayBeNamed names (Read path) = Unit {0}
MayBeNamed names (Import layer path) = In names (Read path)
MayBeNamed names (Unit_of unit) = ⊥
MayBeNamed names (Resolve label) = ⊥

-- a key is claimed behind the others
module _ (l : Log) (s t : State) (ks : List Key) (on : Key) (named : AreNamed l.keys s ks) (may : MayBeNamed l.keys on) (filed : t.filed ≡ s.filed) where
  new_import : (layer : Layer) (path : List ℕ) → on ≡ Import layer path → In (with_key l on).keys (Read path)
  new_import layer path e = in_with_old l on (Read path) (subst (MayBeNamed l.keys) e may)

  no_label : (label : Label) → on ≡ Resolve label → ⊥
  no_label label e = subst (MayBeNamed l.keys) e may

  same_filed : (k : Key) → IsFiled t.filed k → IsFiled s.filed k
  same_filed k f = (f.0, ap (λ (m : Filed). m k) (sym filed) ∙ f.1)

  still_filed : (k : Key) → IsFiled s.filed k → IsFiled t.filed k
  still_filed k f = (f.0, ap (λ (m : Filed). m k) filed ∙ f.1)

  pub named_more : AreNamed (with_key l on).keys t (on ∷ ks)
  named_more = record {
    begun = λ k i unit. elim (in_with l on k i) [
      | inl a ↦ elim (named.begun k a unit) [ inl b ↦ inl (inr b) | inr b ↦ inr (still_filed k b) ]
      | inr a ↦ inl (inl a)
    ];
    imports = λ layer path i. elim (in_with l on (Import layer path) i) [
      | inl a ↦ in_with_old l on (Read path) (named.imports layer path a)
      | inr a ↦ new_import layer path a
    ];
    labels = λ label i. elim (in_with l on (Resolve label) i) [ inl a ↦ named.labels label a | inr a ↦ no_label label a ];
    claimed = λ k i. elim i [ inl e ↦ subst (λ (z : Key). In (with_key l on).keys z) e (in_with_new l on) | inr j ↦ in_with_old l on k (named.claimed k j) ];
    filed = λ k f. in_with_old l on k (named.filed k (same_filed k f));
    kinds = λ k v e. named.kinds k v (ap (λ (m : Filed). m k) (sym filed) ∙ e);
  }

-- a wait that closes a cycle: the key that is needed has a number
pub named_still : (l : Log) (s t : State) (ks : List Key) (on : Key) → AreNamed l.keys s ks → In ks on → t.filed ≡ s.filed → AreNamed (with_key l on).keys t ks
named_still l s t ks on named there filed =
    subst (λ (z : List Key). AreNamed z t ks) (sym (same (list_any (same_key on) l.keys) (any_in l.keys on (named.claimed on there))))
    (record {
      begun = λ k i unit. elim (named.begun k i unit) [ inl a ↦ inl a | inr a ↦ inr (a.0, ap (λ (m : Filed). m k) filed ∙ a.1) ];
      imports = named.imports;
      labels = named.labels;
      claimed = named.claimed;
      filed = λ k f. named.filed k (f.0, ap (λ (m : Filed). m k) (sym filed) ∙ f.1);
      kinds = λ k v e. named.kinds k v (ap (λ (m : Filed). m k) (sym filed) ∙ e);
    })
  where
    same : (b : Bool) → b ≡ true → (if b then l.keys else l.keys ++ on ∷ []) ≡ l.keys
    same true e = refl
    same false e = absurd (true≢false (sym e))

-- the answer of the first key is filed
module _ (names : List Key) (s : State) (k : Key) (ks : List Key) (v : Answer) (named : AreNamed names s (k ∷ ks)) (kind : IsOfKind k v) where
  abbrev later : State
  later = happens s (File 0 k v)

  pub named_settled : AreNamed names later ks
  named_settled = record {
    begun = λ q i unit. elim (named.begun q i unit) [
      | inl a ↦ elim a [
        | inl e ↦ inr (subst (λ (z : Key). IsFiled later.filed z) e (v, put_own s.filed k v))
        | inr j ↦ inl j
      ]
      | inr a ↦ inr (put_has s.filed k v q a.0 a.1)
    ];
    imports = named.imports;
    labels = named.labels;
    claimed = λ q i. named.claimed q (inr i);
    filed = λ q f. elim (put_some s.filed k v q f.0 f.1) [ inl a ↦ named.claimed q (inl a.0) | inr a ↦ named.filed q (f.0, a) ];
    kinds = λ q y e. elim (put_some s.filed k v q y e) [
      | inl a ↦ subst (λ (z : Answer). IsOfKind q z) a.1 (subst (λ (z : Key). IsOfKind z v) a.0 kind)
      | inr a ↦ named.kinds q y a
    ];
  }

-- a unit is claimed
pub named_begun : (names : List Key) (s : State) (k : Key) → AreNamed names s [] → In names k → AreNamed names (happens s (Claim 0 k)) (k ∷ [])
named_begun names s k named there = record {
  begun = λ q i unit. elim (named.begun q i unit) [ inl a ↦ absurd a | inr a ↦ inr a ];
  imports = named.imports;
  labels = named.labels;
  claimed = λ q i. elim i [ inl e ↦ subst (λ (z : Key). In names z) e there | inr j ↦ absurd j ];
  filed = named.filed;
  kinds = named.kinds;
}
