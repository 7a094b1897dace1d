-- What events and keys do to the log of a book.
use Rattle.std.proofs.Common.{◌≡◌, ◌⊎◌, inl, inr, ℕ, zero, suc, ◌+◌, ◌<◌, List, [], ◌∷◌, ◌++◌, length, slice_get, unwrap_or, Option, Some, None, Bool, true, false, cond, if◌then◌else◌, refl, sym, ◌∙◌, ap, subst, true≢false, arith}
use Rattle.std.specs.List.{list_any}
use Rattle.std.proofs.lemmas.List.{length-append}
use Rattle.gn_core.specs.Keys.{Key, Read, same_key}
use Rattle.gn_core.specs.Worlds.{World}
use Rattle.gn_core.specs.Machine.{State, Event, Claim, Block, File, Stop, Allowed, Runs, happens, replay, IsOpening}
use Rattle.gn_core.proofs.Puts.{same_key_is, put_some}
use Rattle.gn_book.specs.Logs.{Log, opening, state_of, key_at, with_key, with_event}
use Rattle.gn_core.proofs.Quiet.{known_stays}
use Rattle.gn_builds.specs.Driving.{IsBegun}
use Rattle.gn_builds.proofs.Counts.{any_at}

replay_more : (s : State) (es : List Event) (e : Event) → replay s (es ++ e ∷ []) ≡ happens (replay s es) e
replay_more s [] e = refl
replay_more s (x ∷ es) e = replay_more (happens s x) es e

-- one more event
pub after_event : (l : Log) (e : Event) → state_of (with_event l e) ≡ happens (state_of l) e
after_event l e = replay_more opening l.events e

runs_more : (w : World) (known : List ℕ → Bool) (s : State) (es : List Event) (e : Event) → Runs w known s es → Allowed w known (replay s es) e → Runs w known s (es ++ e ∷ [])
runs_more w known s [] e runs allowed = (allowed, tt)
runs_more w known s (x ∷ es) e runs allowed = (runs.0, runs_more w known (happens s x) es e runs.1 allowed)

pub event_runs : (w : World) (known : List ℕ → Bool) (l : Log) (e : Event) → Runs w known opening l.events → Allowed w known (state_of l) e → Runs w known opening (with_event l e).events
event_runs w known l e runs allowed = runs_more w known opening l.events e runs allowed

-- the state before all events
pub opens : (w : World) → IsOpening w (λ path. false) opening
opens w = record {
  reads = λ path. refl;
  imports = λ l path. refl;
  units = λ k. refl;
  records = λ l. refl;
  claims = λ k. refl;
  blocks = λ k. refl;
  stops = refl;
}

-- a key behind others stands last or before
last_or_before : (ks : List Key) (k q : Key) (i : ℕ) → slice_get (ks ++ k ∷ []) i ≡ Some q → (slice_get ks i ≡ Some q) ⊎ ((i ≡ length ks) × (q ≡ k))
last_or_before [] k q zero e = inr (refl, cc e)
last_or_before [] k q (suc i) e = absurd (cc e)
last_or_before (x ∷ ks) k q zero e = inl e
last_or_before (x ∷ ks) k q (suc i) e = elim (last_or_before ks k q i e) [ inl a ↦ inl a | inr a ↦ inr (ap suc a.0, a.1) ]

-- keys that differ, and a new one
pub still_differ : (ks : List Key) (k : Key) → list_any (same_key k) ks ≡ false → ((i j : ℕ) (q : Key) → slice_get ks i ≡ Some q → slice_get ks j ≡ Some q → i ≡ j)
    → (i j : ℕ) (q : Key) → slice_get (ks ++ k ∷ []) i ≡ Some q → slice_get (ks ++ k ∷ []) j ≡ Some q → i ≡ j
still_differ ks k fresh differ i j q a b = by (last_or_before ks k q i a) (last_or_before ks k q j b)
  where
    absent : (n : ℕ) → slice_get ks n ≡ Some q → q ≡ k → ⊥
    absent n e same = true≢false (sym (any_at ks k n (e ∙ ap Some same)) ∙ fresh)

    by : (slice_get ks i ≡ Some q) ⊎ ((i ≡ length ks) × (q ≡ k)) → (slice_get ks j ≡ Some q) ⊎ ((j ≡ length ks) × (q ≡ k)) → i ≡ j
    by (inl x) (inl y) = differ i j q x y
    by (inl x) (inr y) = absurd (absent i x y.1)
    by (inr x) (inl y) = absurd (absent j y x.1)
    by (inr x) (inr y) = x.0 ∙ sym y.0

get_front : (xs ys : List Key) (m : ℕ) → m < length xs → slice_get (xs ++ ys) m ≡ slice_get xs m
get_front [] ys m less = absurd (omega (arith, less))
get_front (x ∷ xs) ys zero less = refl
get_front (x ∷ xs) ys (suc m) less = get_front xs ys m (omega (arith, less))

-- a number names its key, whatever numbers are given
pub key_still : (l : Log) (k : Key) (n : ℕ) → n < length l.keys → key_at (with_key l k) n ≡ key_at l n
key_still l k n within = by (list_any (same_key k) l.keys)
  where
    by : (b : Bool) → unwrap_or (slice_get (if b then l.keys else l.keys ++ k ∷ []) n) (Read []) ≡ unwrap_or (slice_get l.keys n) (Read [])
    by true = refl
    by false = ap (λ (o : Option Key). unwrap_or o (Read [])) (get_front l.keys (k ∷ []) n within)

pub number_still : (l : Log) (k : Key) (n : ℕ) → n < length l.keys → n < length (with_key l k).keys
number_still l k n within = by (list_any (same_key k) l.keys)
  where
    by : (b : Bool) → n < length (if b then l.keys else l.keys ++ k ∷ [])
    by true = within
    by false = let long : length (l.keys ++ k ∷ []) ≡ length l.keys + 1 = length-append l.keys (k ∷ []) in omega (arith, long, within)

-- a key that has its answer, or is claimed, stays so
pub begun_stays : (l : Log) (e : Event) (k : Key) → IsBegun (state_of l) k → IsBegun (state_of (with_event l e)) k
begun_stays l e k begun = subst (λ (s : State). IsBegun s k) (sym (after_event l e)) (known_stays (state_of l) e k begun)

-- the key that an event begins or ends
abbrev pub Begins : Event → Key → Type 0
Begins (Claim seat k) q = k ≡ q
Begins (Block seat k on place closes) q = on ≡ q
Begins (File seat k v) q = k ≡ q
Begins (Stop seat cause) q = ⊥

before_happens : (s : State) (e : Event) (q : Key) → IsBegun (happens s e) q → IsBegun s q ⊎ Begins e q
before_happens s (Claim seat k) q (inl filed) = inl (inl filed)
before_happens s (Claim seat k) q (inr (n, h)) = elim (put_some s.claims k seat q n h) [ inl a ↦ inr a.0 | inr b ↦ inl (inr (n, b)) ]
before_happens s (Block seat k on place closes) q (inl filed) = inl (inl filed)
before_happens s (Block seat k on place closes) q (inr (n, h)) = elim (put_some s.claims on (unwrap_or (s.claims on) seat) q n h) [ inl a ↦ inr a.0 | inr b ↦ inl (inr (n, b)) ]
before_happens s (File seat k v) q (inl (w, h)) = elim (put_some s.filed k v q w h) [ inl a ↦ inr a.0 | inr b ↦ inl (inl (w, b)) ]
before_happens s (File seat k v) q (inr (n, h)) = elim (same_or_other (same_key k q) refl) [ inl a ↦ inr a | inr b ↦ inl (inr (n, b)) ]
  where
    same_or_other : (b : Bool) → same_key k q ≡ b → (k ≡ q) ⊎ (s.claims q ≡ Some n)
    same_or_other true e = inl (same_key_is k q e)
    same_or_other false e = inr (sym (ap (λ (b : Bool). cond b None (s.claims q)) e) ∙ h)
before_happens s (Stop seat cause) q begun = inl begun

-- what has begun after an event had begun before, or the event begins it
pub begun_before : (l : Log) (e : Event) (q : Key) → IsBegun (state_of (with_event l e)) q → IsBegun (state_of l) q ⊎ Begins e q
begun_before l e q begun = before_happens (state_of l) e q (subst (λ (s : State). IsBegun s q) (after_event l e) begun)
