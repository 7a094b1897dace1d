-- What each event makes of a whole book.
use Rattle.std.proofs.Common.{◌≡◌, ◌↔◌, ℕ, suc, ◌<◌, ◌≤◌, ◌+◌, List, [], ◌∷◌, ◌++◌, length, map, Option, Some, None, option_map, unwrap_or, slice_get, slice_set, ◌⊎◌, inl, inr, Bool, true, false, ◌||◌, nat_eq, eqb-true, Result, Ok, Err, OnErr, refl, sym, ◌∙◌, ap, subst, arith}
use Rattle.std.specs.List.{IsDistinct, list_any}
use Rattle.std.proofs.lemmas.Bool.{cases_lt}
use Rattle.std.proofs.lemmas.Cmp.{nat_eq_equiv}
use Rattle.std.proofs.lemmas.List.{map-append, length-append}
use Rattle.std.proofs.lemmas.List.Folds.{list_any-append}
use Rattle.std.proofs.lemmas.Map.Keys.{IsDistinct-push}
use Rattle.std.proofs.lemmas.Map.Steps.{length-le_from_distinct_below}
use Rattle.std.proofs.lemmas.Option.{slice_get_past, slice_get-get_or}
use Rattle.gn_core.specs.Keys.{Key, Read, Answer, record_is}
use Rattle.gn_core.specs.Machine.{State, Event, Claim, Block, File, Stop, Cause, Leads, here, onward, happens, replay}
use Rattle.gn_paths.specs.declared.place.Place.{Place}
use Rattle.gn_book.specs.declared.event.Block.{Block as Waiting}
use Rattle.gn_book.specs.declared.event.Event.{Event as Logged}
use Rattle.gn_book.specs.declared.event.Event.TheVariants as logged
use Rattle.gn_book.specs.declared.event.Cause.{Cause as Reason}
use Rattle.gn_book.specs.declared.event.Cause.TheVariants as reason
use Rattle.gn_book.specs.Standings.{Standing, is_open, is_claimed, is_blocked, is_filed, answer_in, seat_in, named, next_of, on_of, told, Tied, IsTable}
use Rattle.gn_book.specs.Logs.{Log, state_of, with_event, opening, key_at, block_event, IsFree, HasKeys, has_stopped, stopped_seat, stopped_seats, event_in, events_by, answer_by, cause_in, first_cause, earlier}
use Rattle.gn_book.specs.Rosters.{Table, table_of}
use Rattle.gn_book.specs.Books.{log_in, events_in, IsBook, IsReason, HasRoom, IsWhole, reason_of, first_stop}
use Rattle.gn_book.specs.Holders.{has_answer}
use Rattle.gn_book.specs.Blocks.{LeadsBack}
use Rattle.gn_book.specs.Chains.{LeadsTo}
use Rattle.gn_book.proofs.Standing.{named_at, standing_here, get_other, unblocked}
use Rattle.gn_book.proofs.Chains.{leads_same}
use Rattle.gn_book.proofs.Keeping.{IsNext, next_claim, next_file, next_block, next_free_block, whole_next, log_next, known_push, replay_push, first_push, seats_push, unfiled_at}

-- a whole book, and what contracts see of it
pub record Before (seats remaining : ℕ) (stop : Option Reason) (ks : List Key) (xs : List Standing) (es : List Logged) (used capacity : ℕ) (old : Log) : Type 0 where
  pub whole : IsWhole seats remaining stop ks xs es used capacity
  pub view_is : log_in seats ks xs es ≡ old

step : (seats remaining : ℕ) (stop : Option Reason) (ks : List Key) (xs : List Standing) (es : List Logged) (used capacity : ℕ) (old : Log)
    → Before seats remaining stop ks xs es used capacity old
    → (zs : List Standing) (e : Logged) (f : Event) → IsNext ks xs zs es e f → reason_of e ≡ None → stopped_seat f ≡ []
    → (now : Table) (fs : List Logged) (taken room : ℕ) → now ≡ table_of ks zs → fs ≡ es ++ e ∷ [] → taken + remaining ≤ room
    → IsWhole seats remaining stop now.keys now.standings fs taken room × (log_in seats now.keys now.standings fs ≡ with_event old f)
step seats remaining stop ks xs es used capacity old before zs e f next no_reason no_seat now fs taken room set pushed fits =
    subst (λ (t : Table). IsWhole seats remaining stop t.keys t.standings fs taken room × (log_in seats t.keys t.standings fs ≡ with_event old f)) (sym set) (
      whole_next seats remaining stop ks xs es used capacity before.whole zs e f next no_reason no_seat zs fs taken room refl pushed fits,
      log_next seats ks xs zs es e f next zs fs refl pushed ∙ ap (λ (l : Log). with_event l f) before.view_is,
    )

pub claim_step : (seats remaining : ℕ) (stop : Option Reason) (ks : List Key) (xs : List Standing) (es : List Logged) (used capacity : ℕ) (old : Log)
    → Before seats remaining stop ks xs es used capacity old
    → (n seat : ℕ) → n < length old.keys → IsFree (state_of old) (key_at old n)
    → (now : Table) (fs : List Logged) (taken room : ℕ) → now ≡ table_of ks (slice_set xs n (is_claimed seat)) → fs ≡ es ++ logged.Claim seat n ∷ [] → taken + remaining ≤ room
    → IsWhole seats remaining stop now.keys now.standings fs taken room × (log_in seats now.keys now.standings fs ≡ with_event old (Claim seat (key_at old n)))
claim_step seats remaining stop ks xs es used capacity old before n seat l free now fs taken room set pushed fits =
    let next : IsNext ks xs (slice_set xs n (is_claimed seat)) es (logged.Claim seat n) (Claim seat (named ks n)) =
    next_claim ks xs es n seat before.whole.0 (subst (λ (z : Log). n < length z.keys) (sym before.view_is) l)
    (subst (λ (z : Log). IsFree (state_of z) (key_at z n)) (sym before.view_is) free) in
    let done = step seats remaining stop ks xs es used capacity old before (slice_set xs n (is_claimed seat)) (logged.Claim seat n) (Claim seat (named ks n)) next refl refl now fs taken room set pushed fits in
    (done.0, done.1 ∙ ap (λ (z : Log). with_event old (Claim seat (key_at z n))) before.view_is)

pub file_step : (seats remaining : ℕ) (stop : Option Reason) (ks : List Key) (xs : List Standing) (es : List Logged) (used capacity : ℕ) (old : Log)
    → Before seats remaining stop ks xs es used capacity old
    → (n seat : ℕ) (v : Answer) → n < length old.keys → (state_of old).claims (key_at old n) ≡ Some seat
    → (now : Table) (fs : List Logged) (taken room : ℕ) → now ≡ table_of ks (slice_set xs n (is_filed v)) → fs ≡ es ++ logged.File seat n ∷ [] → taken + remaining ≤ room
    → IsWhole seats remaining stop now.keys now.standings fs taken room × (log_in seats now.keys now.standings fs ≡ with_event old (File seat (key_at old n) v))
file_step seats remaining stop ks xs es used capacity old before n seat v l claimed now fs taken room set pushed fits =
    let next : IsNext ks xs (slice_set xs n (is_filed v)) es (logged.File seat n) (File seat (named ks n) v) =
    next_file ks xs es n seat v before.whole.0 (subst (λ (z : Log). n < length z.keys) (sym before.view_is) l)
    (subst (λ (z : Log). (state_of z).claims (key_at z n) ≡ Some seat) (sym before.view_is) claimed) in
    let done = step seats remaining stop ks xs es used capacity old before (slice_set xs n (is_filed v)) (logged.File seat n) (File seat (named ks n) v) next refl refl now fs taken room set pushed fits in
    (done.0, done.1 ∙ ap (λ (z : Log). with_event old (File seat (key_at z n) v)) before.view_is)

pub block_step : (seats remaining : ℕ) (stop : Option Reason) (ks : List Key) (xs : List Standing) (es : List Logged) (used capacity : ℕ) (old : Log)
    → Before seats remaining stop ks xs es used capacity old
    → (n on seat other : ℕ) (place : Place) (closes : Bool) → n < length old.keys → on < length old.keys
    → (state_of old).claims (key_at old n) ≡ Some seat → (state_of old).claims (key_at old on) ≡ Some other
    → (now : Table) (fs : List Logged) (taken room : ℕ) → now ≡ table_of ks (slice_set xs n (is_blocked seat on))
    → fs ≡ es ++ logged.Block seat n (record { on = on; place = place; closes = closes }) ∷ [] → taken + remaining ≤ room
    → IsWhole seats remaining stop now.keys now.standings fs taken room × (log_in seats now.keys now.standings fs ≡ with_event old (block_event old seat n on place closes))
block_step seats remaining stop ks xs es used capacity old before n on seat other place closes l m claimed held now fs taken room set pushed fits =
    let b : Waiting = record { on = on; place = place; closes = closes } in
    let next : IsNext ks xs (slice_set xs n (is_blocked seat on)) es (logged.Block seat n b) (Block seat (named ks n) (named ks on) place closes) =
    next_block ks xs es n on seat other b before.whole.0 (subst (λ (z : Log). n < length z.keys) (sym before.view_is) l) refl (subst (λ (z : Log). on < length z.keys) (sym before.view_is) m)
    (subst (λ (z : Log). (state_of z).claims (key_at z n) ≡ Some seat) (sym before.view_is) claimed)
    (subst (λ (z : Log). (state_of z).claims (key_at z on) ≡ Some other) (sym before.view_is) held) in
    let done = step seats remaining stop ks xs es used capacity old before (slice_set xs n (is_blocked seat on)) (logged.Block seat n b) (Block seat (named ks n) (named ks on) place closes) next refl refl now fs taken room set pushed fits in
    (done.0, done.1 ∙ ap (λ (z : Log). with_event old (block_event z seat n on place closes)) before.view_is)

pub free_block_step : (seats remaining : ℕ) (stop : Option Reason) (ks : List Key) (xs : List Standing) (es : List Logged) (used capacity : ℕ) (old : Log)
    → Before seats remaining stop ks xs es used capacity old
    → (n on seat : ℕ) (place : Place) (closes : Bool) → n < length old.keys → on < length old.keys
    → (state_of old).claims (key_at old n) ≡ Some seat → IsFree (state_of old) (key_at old on)
    → (now : Table) (fs : List Logged) (taken room : ℕ) → now ≡ table_of ks (slice_set (slice_set xs on (is_claimed seat)) n (is_blocked seat on))
    → fs ≡ es ++ logged.Block seat n (record { on = on; place = place; closes = closes }) ∷ [] → taken + remaining ≤ room
    → IsWhole seats remaining stop now.keys now.standings fs taken room × (log_in seats now.keys now.standings fs ≡ with_event old (block_event old seat n on place closes))
free_block_step seats remaining stop ks xs es used capacity old before n on seat place closes l m claimed free now fs taken room set pushed fits =
    let b : Waiting = record { on = on; place = place; closes = closes } in
    let next : IsNext ks xs (slice_set (slice_set xs on (is_claimed seat)) n (is_blocked seat on)) es (logged.Block seat n b) (Block seat (named ks n) (named ks on) place closes) =
    next_free_block ks xs es n on seat b before.whole.0 (subst (λ (z : Log). n < length z.keys) (sym before.view_is) l) refl (subst (λ (z : Log). on < length z.keys) (sym before.view_is) m)
    (subst (λ (z : Log). (state_of z).claims (key_at z n) ≡ Some seat) (sym before.view_is) claimed)
    (subst (λ (z : Log). IsFree (state_of z) (key_at z on)) (sym before.view_is) free) in
    let done = step seats remaining stop ks xs es used capacity old before (slice_set (slice_set xs on (is_claimed seat)) n (is_blocked seat on)) (logged.Block seat n b) (Block seat (named ks n) (named ks on) place closes) next refl refl now fs taken room set pushed fits in
    (done.0, done.1 ∙ ap (λ (z : Log). with_event old (block_event z seat n on place closes)) before.view_is)

-- a new book is whole
pub new_whole : (seats : ℕ) (now : Table) (es : List Logged) (taken room : ℕ) → now ≡ table_of [] [] → es ≡ [] → taken ≡ 0 → seats ≤ room
    → IsWhole seats seats None now.keys now.standings es taken room
unfolding IsDistinct
new_whole seats now es taken room no_keys no_events none fits =
    subst (λ (t : Table). IsWhole seats seats None t.keys t.standings es taken room) (sym no_keys)
    (subst (λ (z : List Logged). IsWhole seats seats None [] [] z taken room) (sym no_events) whole)
  where
    whole : IsWhole seats seats None [] [] [] taken room
    whole = (
      record {
        table = λ i j k a b. absurd (cc a);
        sized = refl;
        tied = record { filed = λ k. refl; claims = λ k. refl; blocks = λ k. refl };
        known = tt;
        waits = λ k on h. absurd (cc h);
      },
      refl,
      record {
        once = tt;
        below = λ seat h. absurd (cc h);
        counted = omega arith;
        room = omega (arith, none, fits);
      },
    )

-- how the key of a number stands tells what the state has of it
pub answer_here : (seats remaining : ℕ) (stop : Option Reason) (ks : List Key) (xs : List Standing) (es : List Logged) (used capacity : ℕ) (old : Log)
    → Before seats remaining stop ks xs es used capacity old → (n : ℕ) → n < length old.keys → answer_in (slice_get xs n) ≡ (state_of old).filed (key_at old n)
answer_here seats remaining stop ks xs es used capacity old before n l =
    let book = before.whole.0 in
    ap answer_in (sym (standing_here ks xs n (named ks n) book.table book.sized (named_at ks n (subst (λ (z : Log). n < length z.keys) (sym before.view_is) l))))
    ∙ book.tied.filed (named ks n) ∙ ap (λ (z : Log). (state_of z).filed (key_at z n)) before.view_is

-- a key that a seat has claimed has no answer
pub unfiled_here : (seats remaining : ℕ) (stop : Option Reason) (ks : List Key) (xs : List Standing) (es : List Logged) (used capacity : ℕ) (old : Log)
    → Before seats remaining stop ks xs es used capacity old → (n seat : ℕ) → n < length old.keys → (state_of old).claims (key_at old n) ≡ Some seat → (state_of old).filed (key_at old n) ≡ None
unfiled_here seats remaining stop ks xs es used capacity old before n seat l claimed =
    sym (answer_here seats remaining stop ks xs es used capacity old before n l)
    ∙ unfiled_at ks xs es n seat before.whole.0 (subst (λ (z : Log). n < length z.keys) (sym before.view_is) l)
    (subst (λ (z : Log). (state_of z).claims (key_at z n) ≡ Some seat) (sym before.view_is) claimed)

-- the numbered events of the log are its events
answer_same : (ks : List Key) (xs : List Standing) (s : State) → IsTable ks → length xs ≡ length ks → Tied ks xs s → (n : ℕ) → told xs n ≡ answer_by s (slice_get ks n)
answer_same ks xs s table sized tied n = by (slice_get ks n) refl
  where
    by : (o : Option Key) → slice_get ks n ≡ o → told xs n ≡ answer_by s o
    by None e = ap (λ (o : Option Standing). unwrap_or (answer_in o) (record_is [])) (slice_get_past xs n (past (cases_lt n (length ks)) e))
      where
        past : (n < length ks) ⊎ (length ks ≤ n) → slice_get ks n ≡ None → length xs ≤ n
        past (inl l) f = absurd (cc (named_at ks n l, f))
        past (inr l) f = omega (arith, sized, l)
    by (Some k) e = ap (λ (o : Option Answer). unwrap_or o (record_is [])) (ap answer_in (sym (standing_here ks xs n k table sized e)) ∙ tied.filed k)

pub events_same : (seats remaining : ℕ) (stop : Option Reason) (ks : List Key) (xs : List Standing) (es : List Logged) (used capacity : ℕ) (old : Log)
    → Before seats remaining stop ks xs es used capacity old → events_by old es ≡ old.events
events_same seats remaining stop ks xs es used capacity old before =
    let book = before.whole.0 in
    let l : Log = log_in seats ks xs es in
    ap (λ (z : Log). events_by z es) (sym before.view_is)
    ∙ (λ i. map (event_in (named ks) (λ n. sym (answer_same ks xs (state_of l) book.table book.sized book.tied n) i)) es)
    ∙ ap (λ (z : Log). z.events) before.view_is

pub map_length : {A B : Type 0} (f : A → B) (xs : List A) → length (map f xs) ≡ length xs
map_length f [] = refl
map_length f (x ∷ xs) = ap suc (map_length f xs)

-- a number of a key
pub within : (seats remaining : ℕ) (stop : Option Reason) (ks : List Key) (xs : List Standing) (es : List Logged) (used capacity : ℕ) (old : Log)
    → Before seats remaining stop ks xs es used capacity old → (n : ℕ) → n < length old.keys → n < length ks
within seats remaining stop ks xs es used capacity old before n l = subst (λ (z : Log). n < length z.keys) (sym before.view_is) l

-- the seat that has claimed the key of a number
pub seat_here : (seats remaining : ℕ) (stop : Option Reason) (ks : List Key) (xs : List Standing) (es : List Logged) (used capacity : ℕ) (old : Log)
    → Before seats remaining stop ks xs es used capacity old → (n : ℕ) → n < length old.keys → seat_in (slice_get xs n) ≡ (state_of old).claims (key_at old n)
seat_here seats remaining stop ks xs es used capacity old before n l =
    let book = before.whole.0 in
    ap seat_in (sym (standing_here ks xs n (named ks n) book.table book.sized (named_at ks n (subst (λ (z : Log). n < length z.keys) (sym before.view_is) l))))
    ∙ book.tied.claims (named ks n) ∙ ap (λ (z : Log). (state_of z).claims (key_at z n)) before.view_is

open_by : (o : Option Standing) → (o ≡ None → ⊥) → seat_in o ≡ None → answer_in o ≡ None → o ≡ Some is_open
open_by None lacks a b = absurd (lacks refl)
open_by (Some is_open) lacks a b = refl
open_by (Some (is_claimed seat)) lacks a b = absurd (cc a)
open_by (Some (is_blocked seat on)) lacks a b = absurd (cc a)
open_by (Some (is_filed v)) lacks a b = absurd (cc b)

-- a key that nobody has claimed and that has no answer stands open
pub free_open : (seats remaining : ℕ) (stop : Option Reason) (ks : List Key) (xs : List Standing) (es : List Logged) (used capacity : ℕ) (old : Log)
    → Before seats remaining stop ks xs es used capacity old → (n : ℕ) → n < length old.keys → IsFree (state_of old) (key_at old n) → slice_get xs n ≡ Some is_open
free_open seats remaining stop ks xs es used capacity old before n l free =
    open_by (slice_get xs n) lacks (seat_here seats remaining stop ks xs es used capacity old before n l ∙ free.unclaimed)
    (answer_here seats remaining stop ks xs es used capacity old before n l ∙ free.unfiled)
  where
    inside : n < length xs
    inside = subst (λ z. n < z) (sym before.whole.0.sized) (within seats remaining stop ks xs es used capacity old before n l)

    lacks : slice_get xs n ≡ None → ⊥
    lacks none = cc (none, slice_get-get_or xs n is_open inside)

-- a seat that claims a free key keeps the one that it has
pub still_seated : (seats remaining : ℕ) (stop : Option Reason) (ks : List Key) (xs : List Standing) (es : List Logged) (used capacity : ℕ) (old : Log)
    → Before seats remaining stop ks xs es used capacity old → (n on seat : ℕ) → n < length old.keys → on < length old.keys
    → (state_of old).claims (key_at old n) ≡ Some seat → IsFree (state_of old) (key_at old on)
    → (now : Table) → now ≡ table_of ks (slice_set xs on (is_claimed seat)) → (n < length now.keys) × (seat_in (slice_get now.standings n) ≡ Some seat)
still_seated seats remaining stop ks xs es used capacity old before n on seat l m claimed free now set =
    subst (λ (t : Table). (n < length t.keys) × (seat_in (slice_get t.standings n) ≡ Some seat)) (sym set) (
      within seats remaining stop ks xs es used capacity old before n l,
      ap seat_in (get_other xs on (is_claimed seat) n other) ∙ seat_here seats remaining stop ks xs es used capacity old before n l ∙ claimed,
    )
  where
    other : n ≡ on → ⊥
    other same = let none : (state_of old).claims (key_at old n) ≡ None = ap (λ z. (state_of old).claims (key_at old z)) same ∙ free.unclaimed in cc (none, claimed)

-- the first cause of the stops
cause_later : (o : Option Cause) → earlier o None ≡ o
cause_later None = refl
cause_later (Some c) = refl

cause_first : (o : Option Cause) (c : Cause) (z : Option Cause) → earlier (earlier o (Some c)) z ≡ earlier o (Some c)
cause_first None c z = refl
cause_first (Some d) c z = refl

first_replay : (s : State) (ks : List Key) (xs : List Standing) (es : List Logged)
    → first_cause (replay s (events_in ks xs es)).stops ≡ earlier (first_cause s.stops) (option_map (cause_in (named ks)) (first_stop es))
first_replay s ks xs [] = sym (cause_later (first_cause s.stops))
first_replay s ks xs (logged.Claim seat n ∷ es) = first_replay (happens s (event_in (named ks) (told xs) (logged.Claim seat n))) ks xs es
first_replay s ks xs (logged.Block seat n b ∷ es) = first_replay (happens s (event_in (named ks) (told xs) (logged.Block seat n b))) ks xs es
first_replay s ks xs (logged.File seat n ∷ es) = first_replay (happens s (event_in (named ks) (told xs) (logged.File seat n))) ks xs es
first_replay s ks xs (logged.Stop seat c ∷ es) =
    first_replay (happens s (event_in (named ks) (told xs) (logged.Stop seat c))) ks xs es
    ∙ cause_first (first_cause s.stops) (cause_in (named ks) c) (option_map (cause_in (named ks)) (first_stop es))

pub stopped_same : (seats remaining : ℕ) (stop : Option Reason) (ks : List Key) (xs : List Standing) (es : List Logged) (used capacity : ℕ) (old : Log)
    → Before seats remaining stop ks xs es used capacity old → option_map (cause_in (key_at old)) stop ≡ first_cause (state_of old).stops
stopped_same seats remaining stop ks xs es used capacity old before =
    ap (λ (z : Log). option_map (cause_in (key_at z)) stop) (sym before.view_is)
    ∙ ap (option_map (cause_in (named ks))) before.whole.1
    ∙ sym (first_replay opening ks xs es)
    ∙ ap (λ (z : Log). first_cause (state_of z).stops) before.view_is

below_more : (seats : ℕ) (stopped : List ℕ) (seat : ℕ) → seat < seats → ((q : ℕ) → list_any (nat_eq q) stopped ≡ true → q < seats)
    → (q : ℕ) → list_any (nat_eq q) (stopped ++ seat ∷ []) ≡ true → q < seats
below_more seats stopped seat within below q h = by (list_any (nat_eq q) stopped) (nat_eq q seat) refl refl (sym (list_any-append (nat_eq q) stopped (seat ∷ [])) ∙ h)
  where
    by : (a b : Bool) → list_any (nat_eq q) stopped ≡ a → nat_eq q seat ≡ b → (a || (b || false)) ≡ true → q < seats
    by true b e f g = below q e
    by false true e f g = subst (λ z. z < seats) (sym (eqb-true q seat f)) within
    by false false e f g = absurd (cc g)

-- a seat that hasn't stopped leaves one that is counted
some_left : (seats remaining : ℕ) (stopped : List ℕ) (seat : ℕ) → IsDistinct nat_eq stopped → ((q : ℕ) → list_any (nat_eq q) stopped ≡ true → q < seats)
    → remaining + length stopped ≡ seats → seat < seats → list_any (nat_eq seat) stopped ≡ false → 0 < remaining
some_left seats remaining stopped seat once below counted within fresh =
    let more : length (stopped ++ seat ∷ []) ≤ seats =
    length-le_from_distinct_below (stopped ++ seat ∷ []) seats (IsDistinct-push nat_eq_equiv stopped seat once fresh) (below_more seats stopped seat within below) in
    let long : length (stopped ++ seat ∷ []) ≡ length stopped + 1 = length-append stopped (seat ∷ []) in
    omega (arith, more, long, counted)

pub left_some : (seats remaining : ℕ) (stop : Option Reason) (ks : List Key) (xs : List Standing) (es : List Logged) (used capacity : ℕ) (old : Log)
    → Before seats remaining stop ks xs es used capacity old → (seat : ℕ) → seat < old.seats → has_stopped old.events seat ≡ false → 0 < remaining
left_some seats remaining stop ks xs es used capacity old before seat within fresh =
    let has = before.whole.2 in
    some_left seats remaining (stopped_seats (events_in ks xs es)) seat has.once has.below has.counted
    (subst (λ (z : Log). seat < z.seats) (sym before.view_is) within) (subst (λ (z : Log). has_stopped z.events seat ≡ false) (sym before.view_is) fresh)

same_tied : (ks : List Key) (xs : List Standing) (s : State) (seat : ℕ) (c : Cause) → Tied ks xs s → Tied ks xs (happens s (Stop seat c))
same_tied ks xs s seat c tied = record { filed = tied.filed; claims = tied.claims; blocks = tied.blocks }

known_reason : (seats : ℕ) (ks : List Key) (xs : List Standing) (es : List Logged) (c : Reason) → HasKeys (log_in seats ks xs es) c → IsReason ks c
known_reason seats ks xs es (reason.Failed n) l = l
known_reason seats ks xs es reason.TooLarge l = tt
known_reason seats ks xs es reason.Memory l = tt

pub stop_step : (seats remaining : ℕ) (stop : Option Reason) (ks : List Key) (xs : List Standing) (es : List Logged) (used capacity : ℕ) (old : Log)
    → Before seats remaining stop ks xs es used capacity old
    → (seat : ℕ) (c : Reason) → seat < old.seats → has_stopped old.events seat ≡ false → HasKeys old c
    → (rest : ℕ) (later : Option Reason) (fs : List Logged) (taken room : ℕ) → rest + 1 ≡ remaining → later ≡ earlier stop (Some c) → fs ≡ es ++ logged.Stop seat c ∷ []
    → taken ≡ used + 1 → capacity ≤ room
    → IsWhole seats rest later ks xs fs taken room × (log_in seats ks xs fs ≡ with_event old (Stop seat (cause_in (key_at old) c)))
stop_step seats remaining stop ks xs es used capacity old before seat c within fresh named_in rest later fs taken room less set pushed used_more fits = (
  subst (λ (z : List Logged). IsWhole seats rest later ks xs z taken room) (sym pushed) (
    record {
      table = book.table;
      sized = book.sized;
      tied = subst (Tied ks xs) (sym (ap (replay opening) more ∙ replay_push opening (events_in ks xs es) f)) (same_tied ks xs (replay opening (events_in ks xs es)) seat (cause_in (named ks) c) book.tied);
      known = known_push ks xs es (logged.Stop seat c) book.known (known_reason seats ks xs es c named_here);
      waits = book.waits;
    },
    set ∙ ap (λ (o : Option Reason). earlier o (Some c)) before.whole.1 ∙ sym (first_push es (logged.Stop seat c)),
    record {
      once = subst (λ z. IsDistinct nat_eq z) (sym seats_now) (IsDistinct-push nat_eq_equiv (stopped_seats (events_in ks xs es)) seat has.once unstopped);
      below = λ q h. below_more seats (stopped_seats (events_in ks xs es)) seat inside has.below q (ap (λ z. list_any (nat_eq q) z) (sym seats_now) ∙ h);
      counted = let long : length (stopped_seats (events_in ks xs es) ++ seat ∷ []) ≡ length (stopped_seats (events_in ks xs es)) + 1 = length-append (stopped_seats (events_in ks xs es)) (seat ∷ []) in
          ap (λ z. rest + length z) seats_now ∙ omega (arith, long, less, has.counted);
      room = omega (arith, has.room, less, used_more, fits);
    },
  ),
  ap (λ (z : List Logged). log_in seats ks xs z) pushed ∙ ap (λ (z : List Event). log_with seats ks z) more
      ∙ (λ i. with_event (before.view_is i) (Stop seat (cause_in (key_at (before.view_is i)) c))),
)
  where
    book : IsBook ks xs es
    book = before.whole.0

    has : HasRoom seats remaining (events_in ks xs es) used capacity
    has = before.whole.2

    f : Event
    f = Stop seat (cause_in (named ks) c)

    more : events_in ks xs (es ++ logged.Stop seat c ∷ []) ≡ events_in ks xs es ++ f ∷ []
    more = map-append (event_in (named ks) (told xs)) es (logged.Stop seat c ∷ [])

    seats_now : stopped_seats (events_in ks xs (es ++ logged.Stop seat c ∷ [])) ≡ stopped_seats (events_in ks xs es) ++ seat ∷ []
    seats_now = ap stopped_seats more ∙ seats_push (events_in ks xs es) f

    inside : seat < seats
    inside = subst (λ (z : Log). seat < z.seats) (sym before.view_is) within

    unstopped : list_any (nat_eq seat) (stopped_seats (events_in ks xs es)) ≡ false
    unstopped = subst (λ (z : Log). has_stopped z.events seat ≡ false) (sym before.view_is) fresh

    log_with : ℕ → List Key → List Event → Log
    log_with s k z = record { seats = s; keys = k; events = z }

    named_here : HasKeys (log_in seats ks xs es) c
    named_here = subst (λ (z : Log). HasKeys z c) (sym before.view_is) named_in

-- the chain of numbers leads back exactly where the chain of keys does
pub closes_same : (seats remaining : ℕ) (stop : Option Reason) (ks : List Key) (xs : List Standing) (es : List Logged) (used capacity : ℕ) (old : Log)
    → Before seats remaining stop ks xs es used capacity old → (n on : ℕ) → n < length old.keys → on < length old.keys
    → (b : Bool) → (b ≡ true) ↔ LeadsTo (next_of xs) on n → (b ≡ true) ↔ LeadsBack old on n
closes_same seats remaining stop ks xs es used capacity old before n on l m b both =
    let book = before.whole.0 in
    let inside : n < length ks = subst (λ (z : Log). n < length z.keys) (sym before.view_is) l in
    let other : on < length ks = subst (λ (z : Log). on < length z.keys) (sym before.view_is) m in
    let same : LeadsTo (next_of xs) on n ↔ LeadsBack (log_in seats ks xs es) on n =
    leads_same ks xs (replay opening (events_in ks xs es)) book.table book.sized book.tied book.waits on n other inside in
    subst (λ (z : Log). (b ≡ true) ↔ LeadsBack z on n) before.view_is ((λ e. same.0 (both.0 e)), (λ c. both.1 (same.1 c)))

-- a key that nobody has claimed leads nowhere
pub leads_not : (seats remaining : ℕ) (stop : Option Reason) (ks : List Key) (xs : List Standing) (es : List Logged) (used capacity : ℕ) (old : Log)
    → Before seats remaining stop ks xs es used capacity old → (n on seat : ℕ) → (state_of old).claims (key_at old n) ≡ Some seat → (state_of old).claims (key_at old on) ≡ None → LeadsBack old on n → ⊥
leads_not seats remaining stop ks xs es used capacity old before n on seat claimed free =
    subst (λ (z : Log). (state_of z).claims (key_at z n) ≡ Some seat → (state_of z).claims (key_at z on) ≡ None → LeadsBack z on n → ⊥) before.view_is
    (λ a b. by (named ks on) (named ks n) a b) claimed free
  where
    s : State
    s = replay opening (events_in ks xs es)

    by : (j k : Key) → s.claims k ≡ Some seat → s.claims j ≡ None → Leads s.blocks j k → ⊥
    by j k a b here = cc (a, b)
    by j k a b (onward x e rest) = let none : on_of (s.blocks j) ≡ None = unblocked ks xs s j before.whole.0.tied b in let some : on_of (s.blocks j) ≡ Some x.on = ap on_of e in cc (none, some)

-- who has the key of a number
pub holder_free : (seats remaining : ℕ) (stop : Option Reason) (ks : List Key) (xs : List Standing) (es : List Logged) (used capacity : ℕ) (old : Log)
    → Before seats remaining stop ks xs es used capacity old → (n : ℕ) → n < length old.keys
    → (seat_in (slice_get xs n) ≡ None) × (answer_in (slice_get xs n) ≡ None) → IsFree (state_of old) (key_at old n)
holder_free seats remaining stop ks xs es used capacity old before n l none = record {
  unclaimed = sym (seat_here seats remaining stop ks xs es used capacity old before n l) ∙ none.0;
  unfiled = sym (answer_here seats remaining stop ks xs es used capacity old before n l) ∙ none.1;
}

pub holder_seat : (seats remaining : ℕ) (stop : Option Reason) (ks : List Key) (xs : List Standing) (es : List Logged) (used capacity : ℕ) (old : Log)
    → Before seats remaining stop ks xs es used capacity old → (n : ℕ) → n < length old.keys
    → (seat : ℕ) → seat_in (slice_get xs n) ≡ Some seat → (state_of old).claims (key_at old n) ≡ Some seat
holder_seat seats remaining stop ks xs es used capacity old before n l seat some = sym (seat_here seats remaining stop ks xs es used capacity old before n l) ∙ some

answer_of_one : (o : Option Standing) → has_answer o ≡ true → (v : Answer) × (answer_in o ≡ Some v)
answer_of_one None e = absurd (cc e)
answer_of_one (Some is_open) e = absurd (cc e)
answer_of_one (Some (is_claimed seat)) e = absurd (cc e)
answer_of_one (Some (is_blocked seat on)) e = absurd (cc e)
answer_of_one (Some (is_filed v)) e = (v, refl)

pub holder_done : (seats remaining : ℕ) (stop : Option Reason) (ks : List Key) (xs : List Standing) (es : List Logged) (used capacity : ℕ) (old : Log)
    → Before seats remaining stop ks xs es used capacity old → (n : ℕ) → n < length old.keys
    → has_answer (slice_get xs n) ≡ true → (v : Answer) × ((state_of old).filed (key_at old n) ≡ Some v)
holder_done seats remaining stop ks xs es used capacity old before n l has =
    let some = answer_of_one (slice_get xs n) has in
    (some.0, sym (answer_here seats remaining stop ks xs es used capacity old before n l) ∙ some.1)

-- the same book, with more room
pub kept_whole : (seats remaining : ℕ) (stop : Option Reason) (ks : List Key) (xs : List Standing) (es : List Logged) (used capacity : ℕ) → IsWhole seats remaining stop ks xs es used capacity
    → (now : Table) (fs : List Logged) (taken room : ℕ) → now ≡ table_of ks xs → fs ≡ es → taken ≡ used → capacity ≤ room → IsWhole seats remaining stop now.keys now.standings fs taken room
kept_whole seats remaining stop ks xs es used capacity whole now fs taken room same events filled more =
    subst (λ (t : Table). IsWhole seats remaining stop t.keys t.standings fs taken room) (sym same)
    (subst (λ (z : List Logged). IsWhole seats remaining stop ks xs z taken room) (sym events) (
      whole.0,
      whole.1,
      record { once = whole.2.once; below = whole.2.below; counted = whole.2.counted; room = omega (arith, whole.2.room, filled, more) },
    ))

-- the key of a number that was looked up
pub named_key : (seats remaining : ℕ) (stop : Option Reason) (ks : List Key) (xs : List Standing) (es : List Logged) (used capacity : ℕ) (old : Log)
    → Before seats remaining stop ks xs es used capacity old → (n : ℕ) (k : Key) → slice_get ks n ≡ Some k → k ≡ key_at old n
named_key seats remaining stop ks xs es used capacity old before n k at = sym (ap (λ (o : Option Key). unwrap_or o (Read [])) at) ∙ ap (λ (z : Log). key_at z n) before.view_is

-- what holds of a call that fails
pub err_says : {A E : Type 0} (r : Result A E) (P : Type 0) → P → OnErr r P
err_says (Ok a) P p = tt
err_says (Err e) P p = p

-- contracts see the same book
pub kept_log : (seats : ℕ) (t now : Table) (es fs : List Logged) (old : Log) → log_in seats t.keys t.standings es ≡ old → now ≡ t → fs ≡ es → log_in seats now.keys now.standings fs ≡ old
kept_log seats t now es fs old view_is same events = (λ i. log_in seats (same i).keys (same i).standings (events i)) ∙ view_is
