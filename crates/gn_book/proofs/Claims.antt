-- Claims are given, and stay.
use Rattle.std.proofs.Common.{◌≡◌, ℕ, ◌<◌, ◌+◌, List, [], ◌∷◌, ◌++◌, length, Option, Some, unwrap_or, slice_get, if◌then◌else◌, Bool, true, false, cond, refl, sym, ◌∙◌, ap, arith}
use Rattle.std.specs.List.{list_any}
use Rattle.std.proofs.lemmas.List.{length-append}
use Rattle.gn_core.specs.Keys.{Key, Read, same_key, put}
use Rattle.gn_core.specs.Machine.{State, Event, happens}
use Rattle.gn_core.proofs.Puts.{same_key_is, put_own, put_grows, put_other}
use Rattle.gn_book.specs.Logs.{Log, opening, state_of, key_at, with_event}
use Rattle.gn_book.specs.Claims.{HasClaim, ClaimsAreGiven, ClaimsStay}
use Rattle.gn_book.proofs.Keeping.{replay_push}
use Rattle.gn_book.proofs.Numbering.{get_more}

-- the claims after one more event
claims_now : (l : Log) (e : Event) → (happens (state_of l) e).claims ≡ (state_of (with_event l e)).claims
claims_now l e = ap (λ (s : State). s.claims) (sym (replay_push opening l.events e))

has_now : (l : Log) (e : Event) (n seat : ℕ) → n < length l.keys → (happens (state_of l) e).claims (key_at l n) ≡ Some seat → HasClaim (with_event l e) n seat
has_now l e n seat within claimed = record {
  number = within;
  claimed = sym (ap (λ (m : Key → Option ℕ). m (key_at l n)) (claims_now l e)) ∙ claimed;
}

-- a key that somebody has, or that is given to a seat
given_or_kept : (m : Key → Option ℕ) (on q : Key) (other seat : ℕ) → m q ≡ Some seat → put m on (Some (unwrap_or (m on) other)) q ≡ Some seat
given_or_kept m on q other seat e = by (same_key on q) refl
  where
    by : (b : Bool) → same_key on q ≡ b → cond b (Some (unwrap_or (m on) other)) (m q) ≡ Some seat
    by true s = ap (λ (o : Option ℕ). Some (unwrap_or o other)) (ap m (same_key_is on q s) ∙ e)
    by false s = e

pub are_given : ClaimsAreGiven
are_given l seat n within = (
  has_now l _ n seat within (put_own (state_of l).claims (key_at l n) seat),
  λ m place closes free. has_now l _ n seat within (put_own (state_of l).claims (key_at l n) (unwrap_or ((state_of l).claims (key_at l n)) seat) ∙ ap (λ (o : Option ℕ). Some (unwrap_or o seat)) free.unclaimed),
)

-- a number names its key, whatever numbers are given
key_stays : (ks : List Key) (k : Key) (b : Bool) (n : ℕ) → n < length ks → slice_get (if b then ks else ks ++ k ∷ []) n ≡ slice_get ks n
key_stays ks k true n within = refl
key_stays ks k false n within = get_more ks (k ∷ []) n within

more_keys : (ks : List Key) (k : Key) (b : Bool) (n : ℕ) → n < length ks → n < length (if b then ks else ks ++ k ∷ [])
more_keys ks k true n within = within
more_keys ks k false n within = let long : length (ks ++ k ∷ []) ≡ length ks + 1 = length-append ks (k ∷ []) in omega (arith, long, within)

pub stay : ClaimsStay
stay l n seat has = (
  λ k. record {
    number = more_keys l.keys k (list_any (same_key k) l.keys) n has.number;
    claimed = ap (λ (o : Option Key). (state_of l).claims (unwrap_or o (Read []))) (key_stays l.keys k (list_any (same_key k) l.keys) n has.number) ∙ has.claimed;
  },
  λ other k free. has_now l _ n seat has.number (put_grows (state_of l).claims k other free.unclaimed (key_at l n) seat has.claimed),
  λ other m on place closes. has_now l _ n seat has.number (given_or_kept (state_of l).claims (key_at l on) (key_at l n) other seat has.claimed),
  λ other k v apart. has_now l _ n seat has.number (put_other (state_of l).claims k (key_at l n) seat has.claimed (λ same. apart (sym same))),
  λ other cause. has_now l _ n seat has.number has.claimed,
)
