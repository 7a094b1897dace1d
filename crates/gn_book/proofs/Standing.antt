-- How keys stand after one of them stands otherwise, and what a state is then.
use Rattle.std.proofs.Common.{◌≡◌, ℕ, zero, suc, ◌<◌, List, [], ◌∷◌, length, Option, Some, None, option_map, unwrap_or, slice_get, slice_set, refl, sym, ◌∙◌, ap, subst, Bool, true, false, cond, arith}
use Rattle.std.proofs.lemmas.Option.{slice_get-get_or, unwrap_or-slice_get}
use Rattle.std.proofs.lemmas.List.{length-set}
use Rattle.gn_paths.specs.declared.place.Place.{Place}
use Rattle.gn_core.specs.Keys.{Key, Read, Answer, same_key}
use Rattle.gn_core.specs.Machine.{State, Blocked, Claim, Block, File, happens}
use Rattle.gn_core.proofs.Puts.{same_key_is, key_own}
use Rattle.gn_book.specs.Standings.{Standing, is_open, is_claimed, is_blocked, is_filed, seat_in, on_in, answer_in, standing_at, named, on_of, Tied, IsTable}
use Rattle.gn_book.specs.Logs.{IsFree}

-- the key of a number within the list
pub named_at : (ks : List Key) (n : ℕ) → n < length ks → slice_get ks n ≡ Some (named ks n)
named_at ks n l = slice_get-get_or ks n (Read []) l ∙ ap Some (sym (unwrap_or-slice_get ks n (Read [])))

pub table_rest : (j : Key) (ks : List Key) → IsTable (j ∷ ks) → IsTable ks
table_rest j ks t a b k p q = let e : suc a ≡ suc b = t (suc a) (suc b) k p q in omega (arith, e)

swapped : (a b : Bool) (x y : Standing) (z : Option Standing) → (a ≡ true → b ≡ true → ⊥) → cond a (Some x) (cond b (Some y) z) ≡ cond b (Some y) (cond a (Some x) z)
swapped true true x y z never = absurd (never refl refl)
swapped true false x y z never = refl
swapped false b x y z never = refl

covered : (b : Bool) (x y : Standing) (z : Option Standing) → cond b (Some y) z ≡ cond b (Some y) (cond b (Some x) z)
covered true x y z = refl
covered false x y z = refl

-- one key stands otherwise, and all others as before
pub standing_set : (ks : List Key) (xs : List Standing) (n : ℕ) (k : Key) (y : Standing) → IsTable ks → length xs ≡ length ks → slice_get ks n ≡ Some k
    → (q : Key) → standing_at ks (slice_set xs n y) q ≡ cond (same_key k q) (Some y) (standing_at ks xs q)
standing_set [] xs n k y t l e q = absurd (cc e)
standing_set (j ∷ ks) [] n k y t l e q = absurd (omega (arith, l))
standing_set (j ∷ ks) (x ∷ xs) zero k y t l e q =
    let same : j ≡ k = cc e in
    covered (same_key j q) x y (standing_at ks xs q) ∙ ap (λ (z : Key). cond (same_key z q) (Some y) (cond (same_key j q) (Some x) (standing_at ks xs q))) same
standing_set (j ∷ ks) (x ∷ xs) (suc n) k y t l e q =
    ap (cond (same_key j q) (Some x)) (standing_set ks xs n k y (table_rest j ks t) (omega (arith, l)) e q)
    ∙ swapped (same_key j q) (same_key k q) x y (standing_at ks xs q) apart
  where
    apart : same_key j q ≡ true → same_key k q ≡ true → ⊥
    apart a b =
        let one : j ≡ k = same_key_is j q a ∙ sym (same_key_is k q b) in
        let none : 0 ≡ suc n = t 0 (suc n) k (ap Some one) e in
        omega (arith, none)

-- a key stands as its number does
pub standing_here : (ks : List Key) (xs : List Standing) (n : ℕ) (k : Key) → IsTable ks → length xs ≡ length ks → slice_get ks n ≡ Some k → standing_at ks xs k ≡ slice_get xs n
standing_here [] xs n k t l e = absurd (cc e)
standing_here (j ∷ ks) [] n k t l e = absurd (omega (arith, l))
standing_here (j ∷ ks) (x ∷ xs) zero k t l e =
    let same : j ≡ k = cc e in
    let own : same_key j k ≡ true = subst (λ (z : Key). same_key j z ≡ true) same (key_own j) in
    ap (λ b. cond b (Some x) (standing_at ks xs k)) own
standing_here (j ∷ ks) (x ∷ xs) (suc n) k t l e = by (same_key j k) refl (standing_here ks xs n k (table_rest j ks t) (omega (arith, l)) e)
  where
    by : (b : Bool) → same_key j k ≡ b → standing_at ks xs k ≡ slice_get xs n → cond b (Some x) (standing_at ks xs k) ≡ slice_get xs n
    by true a rest = let none : 0 ≡ suc n = t 0 (suc n) k (ap Some (same_key_is j k a)) e in absurd (omega (arith, none))
    by false a rest = rest

-- a place of a list, after one of them is written
pub get_own : {A : Type 0} (xs : List A) (n : ℕ) (y : A) → n < length xs → slice_get (slice_set xs n y) n ≡ Some y
get_own [] n y l = absurd (omega (arith, l))
get_own (x ∷ xs) zero y l = refl
get_own (x ∷ xs) (suc n) y l = get_own xs n y (omega (arith, l))

pub get_other : {A : Type 0} (xs : List A) (n : ℕ) (y : A) (m : ℕ) → (m ≡ n → ⊥) → slice_get (slice_set xs n y) m ≡ slice_get xs m
get_other [] n y m other = refl
get_other (x ∷ xs) zero y zero other = absurd (other refl)
get_other (x ∷ xs) zero y (suc m) other = refl
get_other (x ∷ xs) (suc n) y zero other = refl
get_other (x ∷ xs) (suc n) y (suc m) other = get_other xs n y m (λ e. other (ap suc e))

within : {A : Type 0} (f : Option Standing → A) (b : Bool) (y : Standing) (z : Option Standing) → f (cond b (Some y) z) ≡ cond b (f (Some y)) (f z)
within f true y z = refl
within f false y z = refl

-- a state that differs at one key alone is tied to the list in which that key stands otherwise
pub tied_set : (ks : List Key) (xs : List Standing) (s t : State) (n : ℕ) (k : Key) (y : Standing)
    → IsTable ks → length xs ≡ length ks → slice_get ks n ≡ Some k → Tied ks xs s
    → ((q : Key) → cond (same_key k q) (answer_in (Some y)) (s.filed q) ≡ t.filed q)
    → ((q : Key) → cond (same_key k q) (seat_in (Some y)) (s.claims q) ≡ t.claims q)
    → ((q : Key) → cond (same_key k q) (option_map (named ks) (on_in (Some y))) (on_of (s.blocks q)) ≡ on_of (t.blocks q))
    → Tied ks (slice_set xs n y) t
tied_set ks xs s t n k y table sized at tied filed claims blocks = record {
  filed = λ q. ap answer_in (now q) ∙ within answer_in (same_key k q) y (standing_at ks xs q) ∙ ap (cond (same_key k q) (answer_in (Some y))) (tied.filed q) ∙ filed q;
  claims = λ q. ap seat_in (now q) ∙ within seat_in (same_key k q) y (standing_at ks xs q) ∙ ap (cond (same_key k q) (seat_in (Some y))) (tied.claims q) ∙ claims q;
  blocks = λ q. ap waits (now q) ∙ within waits (same_key k q) y (standing_at ks xs q) ∙ ap (cond (same_key k q) (waits (Some y))) (tied.blocks q) ∙ blocks q;
}
  where
    waits : Option Standing → Option Key
    waits o = option_map (named ks) (on_in o)

    now : (q : Key) → standing_at ks (slice_set xs n y) q ≡ cond (same_key k q) (Some y) (standing_at ks xs q)
    now q = standing_set ks xs n k y table sized at q

-- nothing at a key stays nothing
pub still_none : {A : Type 0} (m : Key → Option A) (k q : Key) → m k ≡ None → cond (same_key k q) None (m q) ≡ m q
still_none {A} m k q e = by (same_key k q) refl
  where
    by : (b : Bool) → same_key k q ≡ b → cond b None (m q) ≡ m q
    by true h = sym e ∙ ap m (same_key_is k q h)
    by false h = refl

-- a key that nobody has claimed waits for none
waits_not : (o : Option Standing) → seat_in o ≡ None → on_in o ≡ None
waits_not None e = refl
waits_not (Some is_open) e = refl
waits_not (Some (is_claimed seat)) e = refl
waits_not (Some (is_blocked seat on)) e = cc e
waits_not (Some (is_filed answer)) e = refl

pub unblocked : (ks : List Key) (xs : List Standing) (s : State) (k : Key) → Tied ks xs s → s.claims k ≡ None → on_of (s.blocks k) ≡ None
unblocked ks xs s k tied free = sym (tied.blocks k) ∙ ap (option_map (named ks)) (waits_not (standing_at ks xs k) (tied.claims k ∙ free))

pub tied_claim : (ks : List Key) (xs : List Standing) (s : State) (n : ℕ) (k : Key) (seat : ℕ)
    → IsTable ks → length xs ≡ length ks → slice_get ks n ≡ Some k → Tied ks xs s → IsFree s k
    → Tied ks (slice_set xs n (is_claimed seat)) (happens s (Claim seat k))
tied_claim ks xs s n k seat table sized at tied free =
    tied_set ks xs s (happens s (Claim seat k)) n k (is_claimed seat) table sized at tied
    (λ q. still_none s.filed k q free.unfiled) (λ q. refl)
    (λ q. still_none (λ z. on_of (s.blocks z)) k q (unblocked ks xs s k tied free.unclaimed))

pub tied_file : (ks : List Key) (xs : List Standing) (s : State) (n : ℕ) (k : Key) (seat : ℕ) (v : Answer)
    → IsTable ks → length xs ≡ length ks → slice_get ks n ≡ Some k → Tied ks xs s
    → Tied ks (slice_set xs n (is_filed v)) (happens s (File seat k v))
tied_file ks xs s n k seat v table sized at tied =
    tied_set ks xs s (happens s (File seat k v)) n k (is_filed v) table sized at tied (λ q. refl) (λ q. refl) (λ q. by (same_key k q) (s.blocks q))
  where
    by : (b : Bool) (o : Option Blocked) → cond b None (on_of o) ≡ on_of (cond b None o)
    by true o = refl
    by false o = refl

still_some : {A : Type 0} (m : Key → Option A) (k q : Key) (x : A) → m k ≡ Some x → cond (same_key k q) (Some x) (m q) ≡ m q
still_some {A} m k q x e = by (same_key k q) refl
  where
    by : (b : Bool) → same_key k q ≡ b → cond b (Some x) (m q) ≡ m q
    by true h = sym e ∙ ap m (same_key_is k q h)
    by false h = refl

-- a block shows what it is on
on_put : (b : Bool) (x : Blocked) (o : Option Blocked) → cond b (Some x.on) (on_of o) ≡ on_of (cond b (Some x) o)
on_put true x o = refl
on_put false x o = refl

pub tied_block : (ks : List Key) (xs : List Standing) (s : State) (n on seat other : ℕ) (place : Place) (closes : Bool)
    → IsTable ks → length xs ≡ length ks → n < length ks → on < length ks → Tied ks xs s
    → s.claims (named ks n) ≡ Some seat → s.claims (named ks on) ≡ Some other → s.filed (named ks n) ≡ None
    → Tied ks (slice_set xs n (is_blocked seat on)) (happens s (Block seat (named ks n) (named ks on) place closes))
tied_block ks xs s n on seat other place closes table sized l m tied claimed held unfiled =
    tied_set ks xs s (happens s (Block seat (named ks n) (named ks on) place closes)) n (named ks n) (is_blocked seat on) table sized (named_at ks n l) tied
    (λ q. still_none s.filed (named ks n) q unfiled)
    (λ q. still_some s.claims (named ks n) q seat claimed
    ∙ sym (still_some s.claims (named ks on) q other held)
    ∙ ap (λ (o : Option ℕ). cond (same_key (named ks on) q) (Some (unwrap_or o seat)) (s.claims q)) (sym held))
    (λ q. on_put (same_key (named ks n) q) (record { on = named ks on; place = place; closes = closes }) (s.blocks q))

pub tied_free_block : (ks : List Key) (xs : List Standing) (s : State) (n on seat : ℕ) (place : Place) (closes : Bool)
    → IsTable ks → length xs ≡ length ks → n < length ks → on < length ks → Tied ks xs s
    → s.claims (named ks n) ≡ Some seat → IsFree s (named ks on) → s.filed (named ks n) ≡ None
    → Tied ks (slice_set (slice_set xs on (is_claimed seat)) n (is_blocked seat on)) (happens s (Block seat (named ks n) (named ks on) place closes))
tied_free_block ks xs s n on seat place closes table sized l m tied claimed free unfiled =
    tied_set ks (slice_set xs on (is_claimed seat)) first (happens s (Block seat (named ks n) (named ks on) place closes)) n (named ks n) (is_blocked seat on)
    table (length-set xs on (is_claimed seat) ∙ sized) (named_at ks n l)
    (tied_claim ks xs s on (named ks on) seat table sized (named_at ks on m) tied free)
    (λ q. still_none s.filed (named ks n) q unfiled)
    (λ q. still_some first.claims (named ks n) q seat (now (same_key (named ks on) (named ks n)))
    ∙ ap (λ (o : Option ℕ). cond (same_key (named ks on) q) (Some (unwrap_or o seat)) (s.claims q)) (sym free.unclaimed))
    (λ q. on_put (same_key (named ks n) q) (record { on = named ks on; place = place; closes = closes }) (s.blocks q))
  where
    first : State
    first = happens s (Claim seat (named ks on))

    now : (b : Bool) → cond b (Some seat) (s.claims (named ks n)) ≡ Some seat
    now true = refl
    now false = claimed
