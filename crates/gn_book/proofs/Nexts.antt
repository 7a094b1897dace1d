-- What comes next, by the first key that is ready and by one that is claimed.
use Rattle.std.proofs.Common.{◌≡◌, ℕ, suc, ◌<◌, List, [], ◌∷◌, length, Option, Some, None, option_map, unwrap_or, slice_get, inl, inr, refl, sym, ◌∙◌, ap, subst, Bool, true, false, cond}
use Rattle.std.proofs.lemmas.Bool.{cases_lt}
use Rattle.std.proofs.lemmas.Option.{slice_get_past}
use Rattle.gn_core.specs.Keys.{Key, Read, same_key}
use Rattle.gn_core.specs.Machine.{Cause}
use Rattle.gn_book.specs.declared.event.Event.{Event as Logged}
use Rattle.gn_book.specs.declared.event.Cause.{Cause as Reason}
use Rattle.gn_book.specs.Standings.{Standing, seat_in, answer_in, standing_at, named}
use Rattle.gn_book.specs.Logs.{Log, state_of, key_at, cause_in, first_cause, earlier}
use Rattle.gn_book.specs.Rosters.{Table, IsReadyAt, IsFirstReady, IsOneHeld}
use Rattle.gn_book.specs.Tasks.{is_task, IsNoLater}
use Rattle.gn_book.specs.Next.{IsReadyNumber, NoneIsReady, NoneHasStopped, HasNoClaim, NextIs, next_by}
use Rattle.gn_book.proofs.Standing.{named_at}
use Rattle.gn_book.proofs.Rostering.{got_within}
use Rattle.gn_book.proofs.Steps.{Before, within, free_open, holder_free, holder_seat, stopped_same}

-- where no first cause is known, nothing has stopped
no_cause : (cs : List Cause) → first_cause cs ≡ None → cs ≡ []
no_cause [] e = refl
no_cause (c ∷ cs) e = by (first_cause cs) e
  where
    by : (o : Option Cause) → earlier o (Some c) ≡ None → (c ∷ cs) ≡ []
    by None f = absurd (cc f)
    by (Some d) f = absurd (cc f)

-- where no number has a seat, no key has
free_standing : (ks : List Key) (xs : List Standing) (k : Key) → ((n : ℕ) → seat_in (slice_get xs n) ≡ None) → seat_in (standing_at ks xs k) ≡ None
free_standing [] xs k f = refl
free_standing (j ∷ ks) [] k f = refl
free_standing (j ∷ ks) (x ∷ xs) k f = by (same_key j k) (free_standing ks xs k (λ n. f (suc n)))
  where
    by : (b : Bool) → seat_in (standing_at ks xs k) ≡ None → seat_in (cond b (Some x) (standing_at ks xs k)) ≡ None
    by true rest = f 0
    by false rest = rest

-- a number with a seat is within the list
seated_within : (xs : List Standing) (n seat : ℕ) → seat_in (slice_get xs n) ≡ Some seat → n < length xs
seated_within xs n seat e =
    elim (cases_lt n (length xs)) [ inl l ↦ l | inr l ↦ let none : seat_in (slice_get xs n) ≡ None = ap seat_in (slice_get_past xs n l) in absurd (cc (none, e)) ]

module _ (seats remaining : ℕ) (stop : Option Reason) (t : Table) (es : List Logged) (used capacity : ℕ) (old : Log) (before : Before seats remaining stop t.keys t.standings es used capacity old) where
  key_same : (n : ℕ) → named t.keys n ≡ key_at old n
  key_same n = ap (λ (z : Log). key_at z n) before.view_is

  outside : (n : ℕ) → n < length t.keys → n < length old.keys
  outside n l = subst (λ (z : Log). n < length z.keys) before.view_is l

  -- the key of a number that is ready
  key_ready : (n : ℕ) (k : Key) → IsReadyAt t n k → key_at old n ≡ k
  key_ready n k is = sym (key_same n) ∙ ap (λ (o : Option Key). unwrap_or o (Read [])) is.0

  ready_number : (n : ℕ) (k : Key) → IsReadyAt t n k → IsReadyNumber old n
  ready_number n k is = record {
    number = outside n (got_within t.keys n k is.0);
    task = ap is_task (key_ready n k is) ∙ is.2;
    free = holder_free seats remaining stop t.keys t.standings es used capacity old before n (outside n (got_within t.keys n k is.0))
        (ap seat_in is.1, ap answer_in is.1);
  }

  number_ready : (n : ℕ) → IsReadyNumber old n → IsReadyAt t n (key_at old n)
  number_ready n r = (
    named_at t.keys n (within seats remaining stop t.keys t.standings es used capacity old before n r.number) ∙ ap Some (key_same n),
    free_open seats remaining stop t.keys t.standings es used capacity old before n r.number r.free,
    r.task,
  )

  stops_none : stop ≡ None → NoneHasStopped old
  stops_none none = no_cause (state_of old).stops
      (sym (stopped_same seats remaining stop t.keys t.standings es used capacity old before) ∙ ap (option_map (cause_in (key_at old))) none)

  none_ready : IsFirstReady t None → NoneIsReady old
  none_ready first n r = first n (key_at old n) (number_ready n r)

  pub next_holds : (seat : ℕ) → HasNoClaim old seat → stop ≡ None → (o : Option ℕ) (held : Option (ℕ × ℕ)) → IsFirstReady t o → IsOneHeld t held → NextIs old seat (next_by o held)
  next_holds seat unclaimed none (Some n) held first one = (
    stops_none none,
    ready_number n first.0 first.1,
    λ m r. subst (λ (z : Key). IsNoLater z (key_at old m)) (sym (key_ready n first.0 first.1)) (first.2 m (key_at old m) (number_ready m r)),
  )
  next_holds seat unclaimed none None (Some p) first one =
      let l : p.0 < length old.keys = outside p.0 (subst (λ z. p.0 < z) before.whole.0.sized (seated_within t.standings p.0 p.1 one)) in
      let claimed : (state_of old).claims (key_at old p.0) ≡ Some p.1 = holder_seat seats remaining stop t.keys t.standings es used capacity old before p.0 l p.1 one in
      (stops_none none, none_ready first, l, claimed, λ same. unclaimed (key_at old p.0) (claimed ∙ ap Some same))
  next_holds seat unclaimed none None None first one = (
    stops_none none,
    none_ready first,
    λ k. ap (λ (z : Log). (state_of z).claims k) (sym before.view_is) ∙ sym (before.whole.0.tied.claims k) ∙ free_standing t.keys t.standings k one,
  )

  pub next_stops : (cause : Reason) → stop ≡ Some cause → first_cause (state_of old).stops ≡ Some (cause_in (key_at old) cause)
  next_stops cause is = sym (stopped_same seats remaining stop t.keys t.standings es used capacity old before) ∙ ap (option_map (cause_in (key_at old))) is
