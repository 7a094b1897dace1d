-- A key gets a number: nothing else changes.
use Rattle.std.proofs.Common.{◌≡◌, ℕ, zero, suc, ◌<◌, ◌+◌, List, [], ◌∷◌, ◌++◌, length, map, Option, Some, None, option_map, unwrap_or, slice_get, if◌then◌else◌, get_or, ◌⊎◌, inl, inr, Bool, true, false, cond, Result, Ok, Err, OnOk, OnErr, ◌||◌, refl, sym, ◌∙◌, ap, subst, arith, true≢false}
use Rattle.std.specs.List.{list_any}
use Rattle.std.proofs.lemmas.Bool.{cases_lt}
use Rattle.std.proofs.lemmas.List.{length-append, map-append}
use Rattle.std.proofs.lemmas.List.Quantifiers.{position-Some}
use Rattle.std.proofs.lemmas.Option.{slice_get_past, slice_get-get_or}
use Rattle.std.specs.Prelude.{is_some, position}
use Rattle.indexmap.specs.IndexSet.{insert_key}
use Rattle.gn_core.specs.Keys.{Key, Read, record_is, same_key}
use Rattle.gn_core.specs.Machine.{Event, Claim, Block, File, Stop, failed, replay}
use Rattle.gn_core.proofs.Puts.{same_key_is, key_own}
use Rattle.gn_items.specs.declared.key.Key.{Key as Named}
use Rattle.gn_items.specs.declared.key.Key.TheVariants.{Read as read_key, Import as import_key, Setup as setup_key, Load as load_key, Resolve as resolve_key}
use Rattle.gn_items.specs.declared.key.When.TheVariants.{Early, Usual}
use Rattle.gn_items.specs.contracts.key.KeyPartialEq.TheImpl.{eq-value}
use Rattle.gn_book.specs.declared.event.Event.{Event as Logged}
use Rattle.gn_book.specs.declared.event.Event.TheVariants as logged
use Rattle.gn_book.specs.declared.event.Cause.{Cause as Reason}
use Rattle.gn_book.specs.declared.event.Cause.TheVariants as reason
use Rattle.gn_book.specs.Keys.{key_of}
use Rattle.gn_book.specs.Rosters.{Table, with_key as with_more, with_number, IsNumberOf}
use Rattle.gn_book.specs.Standings.{Standing, is_open, seat_in, on_in, answer_in, standing_at, named, told, Tied, IsTable}
use Rattle.gn_book.specs.Logs.{Log, opening, event_in, with_key}
use Rattle.gn_book.specs.Books.{events_in, log_in, HasAnswer, IsKnown, AllKnown, IsBook, HasRoom, IsWhole}

-- keys of the code are equal exactly where they are one key
same_named : (a b : Named) → eq-value.it a b ≡ same_key (key_of a) (key_of b)
same_named (read_key p) (read_key q) = refl
same_named (read_key p) (import_key w t q) = refl
same_named (read_key p) (setup_key t) = refl
same_named (read_key p) (load_key d t) = refl
same_named (read_key p) (resolve_key l) = refl
same_named (import_key w t p) (read_key q) = refl
same_named (import_key Early t p) (import_key Early u q) = refl
same_named (import_key Early t p) (import_key Usual u q) = refl
same_named (import_key Usual t p) (import_key Early u q) = refl
same_named (import_key Usual t p) (import_key Usual u q) = refl
same_named (import_key w t p) (setup_key u) = refl
same_named (import_key w t p) (load_key d u) = refl
same_named (import_key w t p) (resolve_key l) = refl
same_named (setup_key t) (read_key q) = refl
same_named (setup_key t) (import_key w u q) = refl
same_named (setup_key t) (setup_key u) = refl
same_named (setup_key t) (load_key d u) = refl
same_named (setup_key t) (resolve_key l) = refl
same_named (load_key d t) (read_key q) = refl
same_named (load_key d t) (import_key w u q) = refl
same_named (load_key d t) (setup_key u) = refl
same_named (load_key d t) (load_key e u) = refl
same_named (load_key d t) (resolve_key l) = refl
same_named (resolve_key l) (read_key q) = refl
same_named (resolve_key l) (import_key w u q) = refl
same_named (resolve_key l) (setup_key u) = refl
same_named (resolve_key l) (load_key d u) = refl
same_named (resolve_key l) (resolve_key m) = refl

pub any_named : (keys : List Named) (k : Named) → list_any (eq-value.it k) keys ≡ list_any (same_key (key_of k)) (map key_of keys)
any_named [] k = refl
any_named (x ∷ keys) k = (λ i. same_named k x i || any_named keys k i)

-- one more key behind the others
pub key_behind : (keys new : List Named) (k : Named) → new ≡ insert_key eq-value.it keys k → list_any (same_key (key_of k)) (map key_of keys) ≡ false → map key_of new ≡ map key_of keys ++ key_of k ∷ []
key_behind keys new k e fresh = ap (map key_of) e ∙ ap (λ b. map key_of (if b then keys else keys ++ k ∷ [])) (any_named keys k ∙ fresh) ∙ map-append key_of keys (k ∷ [])

-- the key that is stored at a number is the one asked for
pub stored : (keys : List Named) (k : Named) (n : ℕ) (x : Named) → slice_get keys n ≡ Some x → eq-value.it k x ≡ true → slice_get (map key_of keys) n ≡ Some (key_of k)
stored [] k n x e f = absurd (cc e)
stored (y ∷ keys) k zero x e f = let same : y ≡ x = cc e in ap Some (ap key_of same ∙ sym (same_key_is (key_of k) (key_of x) (sym (same_named k x) ∙ f)))
stored (y ∷ keys) k (suc n) x e f = stored keys k n x e f

pub get_more : {A : Type 0} (xs ys : List A) (n : ℕ) → n < length xs → slice_get (xs ++ ys) n ≡ slice_get xs n
get_more [] ys n l = absurd (omega (arith, l))
get_more (x ∷ xs) ys zero l = refl
get_more (x ∷ xs) ys (suc n) l = get_more xs ys n (omega (arith, l))

pub get_last : (ks : List Key) (k q : Key) (i : ℕ) → slice_get (ks ++ k ∷ []) i ≡ Some q → (slice_get ks i ≡ Some q) ⊎ ((i ≡ length ks) × (q ≡ k))
get_last [] k q zero e = inr (refl, cc e)
get_last [] k q (suc i) e = absurd (cc e)
get_last (x ∷ ks) k q zero e = inl e
get_last (x ∷ ks) k q (suc i) e = elim (get_last ks k q i e) [ inl a ↦ inl a | inr a ↦ inr (ap suc a.0, a.1) ]

or_true : (b : Bool) → (b || true) ≡ true
or_true true = refl
or_true false = refl

pub found : (ks : List Key) (k : Key) (i : ℕ) → slice_get ks i ≡ Some k → list_any (same_key k) ks ≡ true
found [] k i e = absurd (cc e)
found (x ∷ ks) k zero e = let same : x ≡ k = cc e in ap (λ b. b || list_any (same_key k) ks) (ap (same_key k) same ∙ key_own k)
found (x ∷ ks) k (suc i) e = ap (λ b. same_key k x || b) (found ks k i e) ∙ or_true (same_key k x)

pub table_more : (ks : List Key) (k : Key) → list_any (same_key k) ks ≡ false → IsTable ks → IsTable (ks ++ k ∷ [])
table_more ks k fresh table i j q a b = by (get_last ks k q i a) (get_last ks k q j b)
  where
    absent : (n : ℕ) → slice_get ks n ≡ Some q → q ≡ k → ⊥
    absent n e same = true≢false (sym (found ks k n (e ∙ ap Some same)) ∙ fresh)

    by : (slice_get ks i ≡ Some q) ⊎ ((i ≡ length ks) × (q ≡ k)) → (slice_get ks j ≡ Some q) ⊎ ((j ≡ length ks) × (q ≡ k)) → i ≡ j
    by (inl x) (inl y) = table i j q x y
    by (inl x) (inr y) = absurd (absent i x y.1)
    by (inr x) (inl y) = absurd (absent j y x.1)
    by (inr x) (inr y) = x.0 ∙ sym y.0

-- an open key stands as one that isn't in the list
standing_more : {A : Type 0} (f : Option Standing → A) (ks : List Key) (xs : List Standing) (k q : Key) → f (Some is_open) ≡ f None → length xs ≡ length ks
    → f (standing_at (ks ++ k ∷ []) (xs ++ is_open ∷ []) q) ≡ f (standing_at ks xs q)
standing_more f [] [] k q same l = by (same_key k q)
  where
    by : (b : Bool) → f (cond b (Some is_open) None) ≡ f None
    by true = same
    by false = refl
standing_more f [] (x ∷ xs) k q same l = absurd (omega (arith, l))
standing_more f (j ∷ ks) [] k q same l = absurd (omega (arith, l))
standing_more f (j ∷ ks) (x ∷ xs) k q same l = by (same_key j q) (standing_more f ks xs k q same (omega (arith, l)))
  where
    by : (b : Bool) → f (standing_at (ks ++ k ∷ []) (xs ++ is_open ∷ []) q) ≡ f (standing_at ks xs q)
        → f (cond b (Some x) (standing_at (ks ++ k ∷ []) (xs ++ is_open ∷ []) q)) ≡ f (cond b (Some x) (standing_at ks xs q))
    by true e = refl
    by false e = e

named_more : (ks : List Key) (k : Key) (n : ℕ) → n < length ks → named (ks ++ k ∷ []) n ≡ named ks n
named_more ks k n l = ap (λ o. unwrap_or o (Read [])) (get_more ks (k ∷ []) n l)

has_within : (xs : List Standing) (m : ℕ) → HasAnswer xs m → m < length xs
has_within xs m has = elim (cases_lt m (length xs)) [ inl l ↦ l | inr l ↦ let none : slice_get xs m ≡ None = slice_get_past xs m l in let nothing : answer_in (slice_get xs m) ≡ None = ap answer_in none in absurd (cc (nothing, has.1)) ]

event_more : (ks : List Key) (xs : List Standing) (k : Key) (e : Logged) → IsKnown ks xs e → event_in (named (ks ++ k ∷ [])) (told (xs ++ is_open ∷ [])) e ≡ event_in (named ks) (told xs) e
event_more ks xs k (logged.Claim seat n) known = ap (Claim seat) (named_more ks k n known)
event_more ks xs k (logged.Block seat n b) known = (λ i. Block seat (named_more ks k n known.0 i) (named_more ks k b.on known.1 i) b.place b.closes)
event_more ks xs k (logged.File seat n) known = (λ i. File seat (named_more ks k n known.0 i) (unwrap_or (answer_in (get_more xs (is_open ∷ []) n (has_within xs n known.1) i)) (record_is [])))
event_more ks xs k (logged.Stop seat (reason.Failed n)) known = ap (λ (q : Key). Stop seat (failed q)) (named_more ks k n known)
event_more ks xs k (logged.Stop seat reason.TooLarge) known = refl
event_more ks xs k (logged.Stop seat reason.Memory) known = refl

events_more : (ks : List Key) (xs : List Standing) (k : Key) (es : List Logged) → AllKnown ks xs es → events_in (ks ++ k ∷ []) (xs ++ is_open ∷ []) es ≡ events_in ks xs es
events_more ks xs k [] known = refl
events_more ks xs k (e ∷ es) known = (λ i. event_more ks xs k e known.0 i ∷ events_more ks xs k es known.1 i)

number_more : (ks : List Key) (k : Key) (n : ℕ) → n < length ks → n < length (ks ++ k ∷ [])
number_more ks k n l = let long : length (ks ++ k ∷ []) ≡ length ks + 1 = length-append ks (k ∷ []) in omega (arith, long, l)

known_one : (ks : List Key) (xs : List Standing) (k : Key) (e : Logged) → IsKnown ks xs e → IsKnown (ks ++ k ∷ []) (xs ++ is_open ∷ []) e
known_one ks xs k (logged.Claim seat n) known = number_more ks k n known
known_one ks xs k (logged.Block seat n b) known = (number_more ks k n known.0, number_more ks k b.on known.1)
known_one ks xs k (logged.File seat n) known = (number_more ks k n known.0, (known.1.0, ap answer_in (get_more xs (is_open ∷ []) n (has_within xs n known.1)) ∙ known.1.1))
known_one ks xs k (logged.Stop seat (reason.Failed n)) known = number_more ks k n known
known_one ks xs k (logged.Stop seat reason.TooLarge) known = tt
known_one ks xs k (logged.Stop seat reason.Memory) known = tt

known_more : (ks : List Key) (xs : List Standing) (k : Key) (es : List Logged) → AllKnown ks xs es → AllKnown (ks ++ k ∷ []) (xs ++ is_open ∷ []) es
known_more ks xs k [] known = tt
known_more ks xs k (e ∷ es) known = (known_one ks xs k e known.0, known_more ks xs k es known.1)

book_more : (ks : List Key) (xs : List Standing) (es : List Logged) (k : Key) → list_any (same_key k) ks ≡ false → IsBook ks xs es → IsBook (ks ++ k ∷ []) (xs ++ is_open ∷ []) es
book_more ks xs es k fresh book = record {
  table = table_more ks k fresh book.table;
  sized = let a : length (xs ++ is_open ∷ []) ≡ length xs + 1 = length-append xs (is_open ∷ []) in let b : length (ks ++ k ∷ []) ≡ length ks + 1 = length-append ks (k ∷ []) in omega (arith, a, b, book.sized);
  tied = subst (Tied (ks ++ k ∷ []) (xs ++ is_open ∷ [])) (sym (ap (replay opening) (events_more ks xs k es book.known))) (record {
    filed = λ q. standing_more answer_in ks xs k q refl book.sized ∙ book.tied.filed q;
    claims = λ q. standing_more seat_in ks xs k q refl book.sized ∙ book.tied.claims q;
    blocks = λ q. ap (option_map (named (ks ++ k ∷ []))) (standing_more on_in ks xs k q refl book.sized) ∙ ons (on_in (standing_at ks xs q)) (book.waits q) ∙ book.tied.blocks q;
  });
  known = known_more ks xs k es book.known;
  waits = λ q on h. number_more ks k on (book.waits q on (sym (standing_more on_in ks xs k q refl book.sized) ∙ h));
}
  where
    ons : (o : Option ℕ) → ((on : ℕ) → o ≡ Some on → on < length ks) → option_map (named (ks ++ k ∷ [])) o ≡ option_map (named ks) o
    ons None f = refl
    ons (Some on) f = ap Some (named_more ks k on (f on refl))

-- a whole book stays whole, and contracts see one more key, unless it has a number
pub number_step : (seats remaining : ℕ) (stop : Option Reason) (t : Table) (es : List Logged) (used capacity : ℕ) (old : Log)
    → IsWhole seats remaining stop t.keys t.standings es used capacity → log_in seats t.keys t.standings es ≡ old
    → (k : Key) (now : Table) → now ≡ with_number t k
    → IsWhole seats remaining stop now.keys now.standings es used capacity × (log_in seats now.keys now.standings es ≡ with_key old k)
number_step seats remaining stop t es used capacity old whole view_is k now set =
    let done = by (list_any (same_key k) t.keys) refl set in
    (done.0, done.1 ∙ ap (λ (l : Log). with_key l k) view_is)
  where
    with_keys : Bool → Log → Log
    with_keys b l = record { seats = l.seats; keys = if b then l.keys else l.keys ++ k ∷ []; events = l.events }

    log_of : List Key → List Event → Log
    log_of z v = record { seats = seats; keys = z; events = v }

    by : (b : Bool) → list_any (same_key k) t.keys ≡ b → now ≡ (if b then t else with_more t k)
        → IsWhole seats remaining stop now.keys now.standings es used capacity × (log_in seats now.keys now.standings es ≡ with_key (log_in seats t.keys t.standings es) k)
    by true e a = (
      subst (λ (z : Table). IsWhole seats remaining stop z.keys z.standings es used capacity) (sym a) whole,
      ap (λ (z : Table). log_in seats z.keys z.standings es) a ∙ ap (λ c. with_keys c (log_in seats t.keys t.standings es)) (sym e),
    )
    by false e a =
        let same : events_in (t.keys ++ k ∷ []) (t.standings ++ is_open ∷ []) es ≡ events_in t.keys t.standings es = events_more t.keys t.standings k es whole.0.known in (
          subst (λ (z : Table). IsWhole seats remaining stop z.keys z.standings es used capacity) (sym a)
              (book_more t.keys t.standings es k e whole.0, whole.1, subst (λ (z : List Event). HasRoom seats remaining z used capacity) (sym same) whole.2),
          ap (λ (z : Table). log_in seats z.keys z.standings es) a ∙ ap (log_of (t.keys ++ k ∷ [])) same ∙ ap (λ c. with_keys c (log_in seats t.keys t.standings es)) (sym e),
        )

-- whatever comes of it
pub number_kept : {E : Type 0} (seats remaining : ℕ) (stop : Option Reason) (t : Table) (es : List Logged) (used capacity : ℕ) (old : Log)
    → IsWhole seats remaining stop t.keys t.standings es used capacity → log_in seats t.keys t.standings es ≡ old
    → (k : Key) (now : Table) (r : Result ℕ E) → OnOk r (now ≡ with_number t k) → OnErr r (now ≡ t)
    → IsWhole seats remaining stop now.keys now.standings es used capacity
number_kept seats remaining stop t es used capacity old whole view_is k now (Ok n) ok err = (number_step seats remaining stop t es used capacity old whole view_is k now ok).0
number_kept seats remaining stop t es used capacity old whole view_is k now (Err e) ok err = subst (λ (z : Table). IsWhole seats remaining stop z.keys z.standings es used capacity) (sym err) whole

pub number_seen : {E : Type 0} (seats remaining : ℕ) (stop : Option Reason) (t : Table) (es : List Logged) (used capacity : ℕ) (old : Log)
    → IsWhole seats remaining stop t.keys t.standings es used capacity → log_in seats t.keys t.standings es ≡ old
    → (k : Key) (now : Table) (r : Result ℕ E) → OnOk r (now ≡ with_number t k) → OnOk r (log_in seats now.keys now.standings es ≡ with_key old k)
number_seen seats remaining stop t es used capacity old whole view_is k now (Ok n) ok = (number_step seats remaining stop t es used capacity old whole view_is k now ok).1
number_seen seats remaining stop t es used capacity old whole view_is k now (Err e) ok = tt

pub number_lost : {E : Type 0} (seats : ℕ) (t : Table) (es : List Logged) (old : Log) → log_in seats t.keys t.standings es ≡ old
    → (now : Table) (r : Result ℕ E) → OnErr r (now ≡ t) → OnErr r (log_in seats now.keys now.standings es ≡ old)
number_lost seats t es old view_is now (Ok n) err = tt
number_lost seats t es old view_is now (Err e) err = ap (λ (z : Table). log_in seats z.keys z.standings es) err ∙ view_is

-- the number of a key
pub number_by : (keys : List Named) (k : Named) (o : Option ℕ) → o ≡ position (eq-value.it k) keys → is_some o ≡ list_any (eq-value.it k) keys → IsNumberOf (map key_of keys) (key_of k) o
number_by keys k None e f = sym (any_named keys k) ∙ sym f
number_by keys k (Some n) e f =
    let at = position-Some (eq-value.it k) keys n k (sym e) in
    stored keys k n (get_or keys n k) (slice_get-get_or keys n k at.0) at.1

-- a list after a key got a number, or none
pub number_same : (t : Table) (k : Key) (n : ℕ) → slice_get t.keys n ≡ Some k → t ≡ with_number t k
number_same t k n at = ap (λ (b : Bool). if b then t else with_more t k) (sym (found t.keys k n at))

pub number_new : (t : Table) (k : Key) → list_any (same_key k) t.keys ≡ false → with_more t k ≡ with_number t k
number_new t k fresh = ap (λ (b : Bool). if b then t else with_more t k) (sym fresh)

pub number_after : {E : Type 0} (t now : Table) (k : Key) → list_any (same_key k) t.keys ≡ false → (r : Result ℕ E) → OnOk r (now ≡ with_more t k) → OnOk r (now ≡ with_number t k)
number_after t now k fresh (Ok n) is = is ∙ number_new t k fresh
number_after t now k fresh (Err e) is = tt
