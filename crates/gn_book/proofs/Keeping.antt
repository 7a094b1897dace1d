-- What a book keeps while events are put behind its log.
use Rattle.std.proofs.Common.{◌≡◌, ℕ, zero, suc, ◌<◌, ◌≤◌, ◌+◌, List, [], ◌∷◌, ◌++◌, length, map, Option, Some, None, unwrap_or, slice_get, slice_set, refl, sym, ◌∙◌, ap, subst, nat_eq, Bool, true, false, cond}
use Rattle.std.proofs.lemmas.List.{map-append, length-set, append-nil}
use Rattle.std.proofs.lemmas.Grind.{flat_map-append}
use Rattle.std.specs.List.{IsDistinct, list_any}
use Rattle.gn_core.specs.Keys.{Key, Answer, record_is, same_key}
use Rattle.gn_core.specs.Machine.{State, Event, Claim, Block, File, happens, replay}
use Rattle.gn_book.specs.declared.event.Block.{Block as Waiting}
use Rattle.gn_book.specs.declared.event.Event.{Event as Logged}
use Rattle.gn_book.specs.declared.event.Event.TheVariants as logged
use Rattle.gn_book.specs.declared.event.Cause.{Cause as Reason}
use Rattle.gn_book.specs.Standings.{Standing, is_open, is_claimed, is_blocked, is_filed, answer_in, seat_in, on_in, standing_at, named, told, Tied, IsTable}
use Rattle.gn_book.specs.Logs.{Log, opening, event_in, with_event, IsFree, stopped_seat, stopped_seats, earlier}
use Rattle.gn_book.specs.Books.{events_in, log_in, HasAnswer, IsKnown, AllKnown, IsBook, HasRoom, IsWhole, reason_of, first_stop}
use Rattle.gn_book.proofs.Standing.{named_at, standing_set, standing_here, get_own, get_other, tied_claim, tied_file, tied_block, tied_free_block}

pub replay_push : (s : State) (es : List Event) (e : Event) → replay s (es ++ e ∷ []) ≡ happens (replay s es) e
replay_push s [] e = refl
replay_push s (x ∷ es) e = replay_push (happens s x) es e

-- a number that has an answer isn't one that has none
apart : (xs : List Standing) (n m : ℕ) → answer_in (slice_get xs n) ≡ None → HasAnswer xs m → m ≡ n → ⊥
apart xs n m lacks has e = let has_none : answer_in (slice_get xs m) ≡ None = ap (λ z. answer_in (slice_get xs z)) e ∙ lacks in cc (has.1, has_none)

has_set : (xs : List Standing) (n m : ℕ) (y : Standing) → answer_in (slice_get xs n) ≡ None → HasAnswer xs m → HasAnswer (slice_set xs n y) m
has_set xs n m y lacks has = (has.0, ap answer_in (get_other xs n y m (apart xs n m lacks has)) ∙ has.1)

told_set : (xs : List Standing) (n m : ℕ) (y : Standing) → answer_in (slice_get xs n) ≡ None → HasAnswer xs m → told (slice_set xs n y) m ≡ told xs m
told_set xs n m y lacks has = ap (λ o. unwrap_or (answer_in o) (record_is [])) (get_other xs n y m (apart xs n m lacks has))

-- where a key without answer stands otherwise, the events of the log stay what they are
event_set : (ks : List Key) (xs : List Standing) (n : ℕ) (y : Standing) → answer_in (slice_get xs n) ≡ None → (e : Logged) → IsKnown ks xs e
    → event_in (named ks) (told (slice_set xs n y)) e ≡ event_in (named ks) (told xs) e
event_set ks xs n y lacks (logged.Claim seat m) known = refl
event_set ks xs n y lacks (logged.Block seat m b) known = refl
event_set ks xs n y lacks (logged.File seat m) known = ap (File seat (named ks m)) (told_set xs n m y lacks known.1)
event_set ks xs n y lacks (logged.Stop seat c) known = refl

pub events_set : (ks : List Key) (xs : List Standing) (n : ℕ) (y : Standing) → answer_in (slice_get xs n) ≡ None → (es : List Logged) → AllKnown ks xs es
    → events_in ks (slice_set xs n y) es ≡ events_in ks xs es
events_set ks xs n y lacks [] known = refl
events_set ks xs n y lacks (e ∷ es) known = (λ i. event_set ks xs n y lacks e known.0 i ∷ events_set ks xs n y lacks es known.1 i)

known_set_one : (ks : List Key) (xs : List Standing) (n : ℕ) (y : Standing) → answer_in (slice_get xs n) ≡ None → (e : Logged) → IsKnown ks xs e → IsKnown ks (slice_set xs n y) e
known_set_one ks xs n y lacks (logged.Claim seat m) known = known
known_set_one ks xs n y lacks (logged.Block seat m b) known = known
known_set_one ks xs n y lacks (logged.File seat m) known = (known.0, has_set xs n m y lacks known.1)
known_set_one ks xs n y lacks (logged.Stop seat c) known = known

pub known_set : (ks : List Key) (xs : List Standing) (n : ℕ) (y : Standing) → answer_in (slice_get xs n) ≡ None → (es : List Logged) → AllKnown ks xs es → AllKnown ks (slice_set xs n y) es
known_set ks xs n y lacks [] known = tt
known_set ks xs n y lacks (e ∷ es) known = (known_set_one ks xs n y lacks e known.0, known_set ks xs n y lacks es known.1)

pub known_push : (ks : List Key) (xs : List Standing) (es : List Logged) (e : Logged) → AllKnown ks xs es → IsKnown ks xs e → AllKnown ks xs (es ++ e ∷ [])
known_push ks xs [] e all one = (one, tt)
known_push ks xs (x ∷ es) e all one = (all.0, known_push ks xs es e all.1 one)

-- what stays while keys without answers stand otherwise
pub record Changes (ks : List Key) (xs zs : List Standing) (es : List Logged) : Type 0 where
  pub sized : length zs ≡ length ks
  pub same : events_in ks zs es ≡ events_in ks xs es
  pub kept : AllKnown ks zs es
  pub waits : (k : Key) (on : ℕ) → on_in (standing_at ks zs k) ≡ Some on → on < length ks

pub unchanged : (ks : List Key) (xs : List Standing) (es : List Logged) → IsBook ks xs es → Changes ks xs xs es
unchanged ks xs es book = record { sized = book.sized; same = refl; kept = book.known; waits = book.waits }

pub changes_set : (ks : List Key) (xs zs : List Standing) (es : List Logged) (n : ℕ) (y : Standing) → IsTable ks → Changes ks xs zs es → n < length ks → answer_in (slice_get zs n) ≡ None
    → ((on : ℕ) → on_in (Some y) ≡ Some on → on < length ks) → Changes ks xs (slice_set zs n y) es
changes_set ks xs zs es n y table changes l unfiled number = record {
  sized = length-set zs n y ∙ changes.sized;
  same = events_set ks zs n y unfiled es changes.kept ∙ changes.same;
  kept = known_set ks zs n y unfiled es changes.kept;
  waits = λ k on h. by k (same_key (named ks n) k) on (sym (ap on_in (standing_set ks zs n (named ks n) y table changes.sized (named_at ks n l) k)) ∙ h) (changes.waits k on);
}
  where
    by : (k : Key) (b : Bool) (on : ℕ) → on_in (cond b (Some y) (standing_at ks zs k)) ≡ Some on → (on_in (standing_at ks zs k) ≡ Some on → on < length ks) → on < length ks
    by k true on h rest = number on h
    by k false on h rest = rest h

-- one more event, with which keys that had no answer stand otherwise
pub record IsNext (ks : List Key) (xs zs : List Standing) (es : List Logged) (e : Logged) (f : Event) : Type 0 where
  pub changes : Changes ks xs zs es
  pub event : event_in (named ks) (told zs) e ≡ f
  pub known : IsKnown ks zs e
  pub tied : Tied ks zs (happens (replay opening (events_in ks xs es)) f)

pub events_next : (ks : List Key) (xs zs : List Standing) (es : List Logged) (e : Logged) (f : Event) → IsNext ks xs zs es e f → events_in ks zs (es ++ e ∷ []) ≡ events_in ks xs es ++ f ∷ []
events_next ks xs zs es e f next =
    map-append (event_in (named ks) (told zs)) es (e ∷ []) ∙ (λ i. next.changes.same i ++ next.event i ∷ [])

pub book_next : (ks : List Key) (xs zs : List Standing) (es : List Logged) (e : Logged) (f : Event) → IsBook ks xs es → IsNext ks xs zs es e f → IsBook ks zs (es ++ e ∷ [])
book_next ks xs zs es e f book next = record {
  table = book.table;
  sized = next.changes.sized;
  tied = subst (Tied ks zs) (sym (ap (replay opening) (events_next ks xs zs es e f next) ∙ replay_push opening (events_in ks xs es) f)) next.tied;
  known = known_push ks zs es e next.changes.kept next.known;
  waits = next.changes.waits;
}

pub first_push : (es : List Logged) (e : Logged) → first_stop (es ++ e ∷ []) ≡ earlier (first_stop es) (reason_of e)
first_push [] e = by (reason_of e)
  where
    by : (o : Option Reason) → earlier o None ≡ earlier None o
    by None = refl
    by (Some c) = refl
first_push (x ∷ es) e = ap (earlier (reason_of x)) (first_push es e) ∙ by (reason_of x) (first_stop es) (reason_of e)
  where
    by : (a b d : Option Reason) → earlier a (earlier b d) ≡ earlier (earlier a b) d
    by None b d = refl
    by (Some c) b d = refl

none_later : (o : Option Reason) → earlier o None ≡ o
none_later None = refl
none_later (Some c) = refl

pub seats_push : (events : List Event) (f : Event) → stopped_seats (events ++ f ∷ []) ≡ stopped_seats events ++ stopped_seat f
seats_push events f = flat_map-append stopped_seat events (f ∷ []) ∙ ap (λ z. stopped_seats events ++ z) (append-nil (stopped_seat f))

-- room for one more event that is no stop
pub room_next : (seats left : ℕ) (events later : List Event) (used capacity taken room : ℕ) → HasRoom seats left events used capacity
    → stopped_seats later ≡ stopped_seats events → taken + left ≤ room → HasRoom seats left later taken room
room_next seats left events later used capacity taken room has same fits = record {
  once = subst (λ z. IsDistinct nat_eq z) (sym same) has.once;
  below = λ seat h. has.below seat (ap (λ z. list_any (nat_eq seat) z) (sym same) ∙ h);
  counted = ap (λ z. left + length z) same ∙ has.counted;
  room = fits;
}

-- a whole book is whole after one more event that is no stop
pub whole_next : (seats left : ℕ) (stop : Option Reason) (ks : List Key) (xs : List Standing) (es : List Logged) (used capacity : ℕ)
    → IsWhole seats left stop ks xs es used capacity
    → (zs : List Standing) (e : Logged) (f : Event) → IsNext ks xs zs es e f → reason_of e ≡ None → stopped_seat f ≡ []
    → (ys : List Standing) (fs : List Logged) (taken room : ℕ) → ys ≡ zs → fs ≡ es ++ e ∷ [] → taken + left ≤ room
    → IsWhole seats left stop ks ys fs taken room
whole_next seats left stop ks xs es used capacity (book, first, has) zs e f next no_reason no_seat ys fs taken room set pushed fits =
    subst (λ (z : List Standing). IsWhole seats left stop ks z fs taken room) (sym set)
    (subst (λ (z : List Logged). IsWhole seats left stop ks zs z taken room) (sym pushed) (
      book_next ks xs zs es e f book next,
      first ∙ sym (none_later (first_stop es)) ∙ ap (earlier (first_stop es)) (sym no_reason) ∙ sym (first_push es e),
      room_next seats left (events_in ks xs es) (events_in ks zs (es ++ e ∷ [])) used capacity taken room has same fits,
    ))
  where
    same : stopped_seats (events_in ks zs (es ++ e ∷ [])) ≡ stopped_seats (events_in ks xs es)
    same = ap stopped_seats (events_next ks xs zs es e f next) ∙ seats_push (events_in ks xs es) f
        ∙ ap (λ z. stopped_seats (events_in ks xs es) ++ z) no_seat ∙ append-nil (stopped_seats (events_in ks xs es))

-- and its log has one more event
pub log_next : (seats : ℕ) (ks : List Key) (xs zs : List Standing) (es : List Logged) (e : Logged) (f : Event) → IsNext ks xs zs es e f
    → (ys : List Standing) (fs : List Logged) → ys ≡ zs → fs ≡ es ++ e ∷ []
    → log_in seats ks ys fs ≡ with_event (log_in seats ks xs es) f
log_next seats ks xs zs es e f next ys fs set pushed =
    (λ i. log_in seats ks (set i) (pushed i)) ∙ ap (λ (z : List Event). log_with seats ks z) (events_next ks xs zs es e f next)
  where
    log_with : ℕ → List Key → List Event → Log
    log_with s k z = record { seats = s; keys = k; events = z }

pub map_set : {A B : Type 0} (f : A → B) (xs : List A) (n : ℕ) (y : A) → map f (slice_set xs n y) ≡ slice_set (map f xs) n (f y)
map_set f [] n y = refl
map_set f (x ∷ xs) zero y = refl
map_set f (x ∷ xs) (suc n) y = ap (λ z. f x ∷ z) (map_set f xs n y)

-- the standing of a number is that of its key
here : (ks : List Key) (xs : List Standing) (n : ℕ) → IsTable ks → length xs ≡ length ks → n < length ks → standing_at ks xs (named ks n) ≡ slice_get xs n
here ks xs n table sized l = standing_here ks xs n (named ks n) table sized (named_at ks n l)

pub next_claim : (ks : List Key) (xs : List Standing) (es : List Logged) (n seat : ℕ) → IsBook ks xs es → n < length ks
    → IsFree (replay opening (events_in ks xs es)) (named ks n)
    → IsNext ks xs (slice_set xs n (is_claimed seat)) es (logged.Claim seat n) (Claim seat (named ks n))
next_claim ks xs es n seat book l free = record {
  changes = changes_set ks xs xs es n (is_claimed seat) book.table (unchanged ks xs es book) l
      (ap answer_in (sym (here ks xs n book.table book.sized l)) ∙ book.tied.filed (named ks n) ∙ free.unfiled) (λ on h. absurd (cc h));
  event = refl;
  known = l;
  tied = tied_claim ks xs (replay opening (events_in ks xs es)) n (named ks n) seat book.table book.sized (named_at ks n l) book.tied free;
}

-- a key that a seat has claimed has no answer
claimed_not_filed : (o : Option Standing) (seat : ℕ) → seat_in o ≡ Some seat → answer_in o ≡ None
claimed_not_filed None seat e = refl
claimed_not_filed (Some is_open) seat e = refl
claimed_not_filed (Some (is_claimed s)) seat e = refl
claimed_not_filed (Some (is_blocked s on)) seat e = refl
claimed_not_filed (Some (is_filed v)) seat e = absurd (cc e)

pub unfiled_at : (ks : List Key) (xs : List Standing) (es : List Logged) (n seat : ℕ) → IsBook ks xs es → n < length ks
    → (replay opening (events_in ks xs es)).claims (named ks n) ≡ Some seat → answer_in (slice_get xs n) ≡ None
unfiled_at ks xs es n seat book l claimed =
    ap answer_in (sym (here ks xs n book.table book.sized l)) ∙ claimed_not_filed (standing_at ks xs (named ks n)) seat (book.tied.claims (named ks n) ∙ claimed)

pub next_file : (ks : List Key) (xs : List Standing) (es : List Logged) (n seat : ℕ) (v : Answer) → IsBook ks xs es → n < length ks
    → (replay opening (events_in ks xs es)).claims (named ks n) ≡ Some seat
    → IsNext ks xs (slice_set xs n (is_filed v)) es (logged.File seat n) (File seat (named ks n) v)
next_file ks xs es n seat v book l claimed = record {
  changes = changes_set ks xs xs es n (is_filed v) book.table (unchanged ks xs es book) l (unfiled_at ks xs es n seat book l claimed) (λ on h. absurd (cc h));
  event = ap (λ (o : Option Standing). File seat (named ks n) (unwrap_or (answer_in o) (record_is []))) own;
  known = (l, (v, ap answer_in own));
  tied = tied_file ks xs (replay opening (events_in ks xs es)) n (named ks n) seat v book.table book.sized (named_at ks n l) book.tied;
}
  where
    own : slice_get (slice_set xs n (is_filed v)) n ≡ Some (is_filed v)
    own = get_own xs n (is_filed v) (subst (λ z. n < z) (sym book.sized) l)

pub next_block : (ks : List Key) (xs : List Standing) (es : List Logged) (n on seat other : ℕ) (b : Waiting) → IsBook ks xs es → n < length ks → b.on ≡ on → on < length ks
    → (replay opening (events_in ks xs es)).claims (named ks n) ≡ Some seat → (replay opening (events_in ks xs es)).claims (named ks on) ≡ Some other
    → IsNext ks xs (slice_set xs n (is_blocked seat on)) es (logged.Block seat n b) (Block seat (named ks n) (named ks on) b.place b.closes)
next_block ks xs es n on seat other b book l same m claimed held = record {
  changes = changes_set ks xs xs es n (is_blocked seat on) book.table (unchanged ks xs es book) l (unfiled_at ks xs es n seat book l claimed)
      (λ o h. let e : on ≡ o = cc h in subst (λ z. z < length ks) e m);
  event = ap (λ z. Block seat (named ks n) (named ks z) b.place b.closes) same;
  known = (l, subst (λ z. z < length ks) (sym same) m);
  tied = tied_block ks xs (replay opening (events_in ks xs es)) n on seat other b.place b.closes book.table book.sized l m book.tied claimed held
      (sym (book.tied.filed (named ks n)) ∙ claimed_not_filed (standing_at ks xs (named ks n)) seat (book.tied.claims (named ks n) ∙ claimed));
}

pub next_free_block : (ks : List Key) (xs : List Standing) (es : List Logged) (n on seat : ℕ) (b : Waiting) → IsBook ks xs es → n < length ks → b.on ≡ on → on < length ks
    → (replay opening (events_in ks xs es)).claims (named ks n) ≡ Some seat → IsFree (replay opening (events_in ks xs es)) (named ks on)
    → IsNext ks xs (slice_set (slice_set xs on (is_claimed seat)) n (is_blocked seat on)) es (logged.Block seat n b) (Block seat (named ks n) (named ks on) b.place b.closes)
next_free_block ks xs es n on seat b book l same m claimed free = record {
  changes = changes_set ks xs (slice_set xs on (is_claimed seat)) es n (is_blocked seat on) book.table first l
      (after_claim (unfiled_at ks xs es n seat book l claimed)) (λ o h. let e : on ≡ o = cc h in subst (λ z. z < length ks) e m);
  event = ap (λ z. Block seat (named ks n) (named ks z) b.place b.closes) same;
  known = (l, subst (λ z. z < length ks) (sym same) m);
  tied = tied_free_block ks xs (replay opening (events_in ks xs es)) n on seat b.place b.closes book.table book.sized l m book.tied claimed free
      (sym (book.tied.filed (named ks n)) ∙ claimed_not_filed (standing_at ks xs (named ks n)) seat (book.tied.claims (named ks n) ∙ claimed));
}
  where
    first : Changes ks xs (slice_set xs on (is_claimed seat)) es
    first = changes_set ks xs xs es on (is_claimed seat) book.table (unchanged ks xs es book) m
        (ap answer_in (sym (here ks xs on book.table book.sized m)) ∙ book.tied.filed (named ks on) ∙ free.unfiled) (λ o h. absurd (cc h))

    apart_numbers : n ≡ on → ⊥
    apart_numbers e = let none : (replay opening (events_in ks xs es)).claims (named ks n) ≡ None = ap (λ z. (replay opening (events_in ks xs es)).claims (named ks z)) e ∙ free.unclaimed in cc (none, claimed)

    after_claim : answer_in (slice_get xs n) ≡ None → answer_in (slice_get (slice_set xs on (is_claimed seat)) n) ≡ None
    after_claim e = ap answer_in (get_other xs on (is_claimed seat) n apart_numbers) ∙ e
