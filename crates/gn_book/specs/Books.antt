-- How a book keeps its log.
use Rattle.std.specs.Prelude.{◌≡◌, ℕ, ◌<◌, ◌+◌, ◌≤◌, List, [], ◌∷◌, length, Option, Some, None, slice_get, map, true, nat_eq}
use Rattle.std.specs.List.{IsDistinct}
use Rattle.gn_core.specs.Keys.{Key, Answer}
use Rattle.gn_core.specs.Machine.{Event, replay}
use Rattle.gn_book.specs.declared.event.Event.{Event as Logged}
use Rattle.gn_book.specs.declared.event.Event.TheVariants as logged
use Rattle.gn_book.specs.declared.event.Cause.{Cause as Reason}
use Rattle.gn_book.specs.declared.event.Cause.TheVariants as reason
use Rattle.gn_book.specs.Standings.{Standing, answer_in, on_in, standing_at, named, told, Tied, IsTable}
use Rattle.gn_book.specs.Logs.{Log, opening, event_in, stopped_seats, has_stopped, earlier}

-- the log of numbered events
abbrev pub events_in : List Key → List Standing → List Logged → List Event
events_in ks xs es = map (event_in (named ks) (told xs)) es

abbrev pub log_in : ℕ → List Key → List Standing → List Logged → Log
log_in seats ks xs es = record { seats = seats; keys = ks; events = events_in ks xs es }

-- a number names a key, and a key that has its answer
abbrev pub IsNumber : List Key → ℕ → Type 0
IsNumber ks n = n < length ks

abbrev pub HasAnswer : List Standing → ℕ → Type 0
HasAnswer xs n = (v : Answer) × (answer_in (slice_get xs n) ≡ Some v)

abbrev pub IsReason : List Key → Reason → Type 0
IsReason ks (reason.Failed n) = IsNumber ks n
IsReason ks reason.TooLarge = Unit {0}
IsReason ks reason.Memory = Unit {0}

-- the numbers of an event name keys, and that of an answer that was filed names a key that has one
abbrev pub IsKnown : List Key → List Standing → Logged → Type 0
IsKnown ks xs (logged.Claim seat n) = IsNumber ks n
IsKnown ks xs (logged.Block seat n b) = IsNumber ks n × IsNumber ks b.on
IsKnown ks xs (logged.File seat n) = IsNumber ks n × HasAnswer xs n
IsKnown ks xs (logged.Stop seat c) = IsReason ks c

abbrev pub AllKnown : List Key → List Standing → List Logged → Type 0
AllKnown ks xs [] = Unit {0}
AllKnown ks xs (e ∷ es) = IsKnown ks xs e × AllKnown ks xs es

-- the cause of a stop, and that of the first one
abbrev pub reason_of : Logged → Option Reason
reason_of (logged.Stop seat c) = Some c
reason_of (logged.Claim seat n) = None
reason_of (logged.Block seat n b) = None
reason_of (logged.File seat n) = None

abbrev pub first_stop : List Logged → Option Reason
first_stop [] = None
first_stop (e ∷ es) = earlier (reason_of e) (first_stop es)

-- each seat has stopped at most once, and so many are left that haven't; there is room in the log for their stops
pub record HasRoom (seats remaining : ℕ) (events : List Event) (used capacity : ℕ) : Type 0 where
  pub once : IsDistinct nat_eq (stopped_seats events)
  pub below : (seat : ℕ) → has_stopped events seat ≡ true → seat < seats
  pub counted : remaining + length (stopped_seats events) ≡ seats
  pub room : used + remaining ≤ capacity

-- the keys stand as the log leaves them
pub record IsBook (ks : List Key) (xs : List Standing) (es : List Logged) : Type 0 where
  pub table : IsTable ks
  pub sized : length xs ≡ length ks
  pub tied : Tied ks xs (replay opening (events_in ks xs es))
  pub known : AllKnown ks xs es
  -- a key that waits for another waits for one that has a number
  pub waits : (k : Key) (on : ℕ) → on_in (standing_at ks xs k) ≡ Some on → IsNumber ks on

-- a book is whole: the keys, how they stand, the log, the cause of the first stop, and the room for stops
abbrev pub IsWhole : ℕ → ℕ → Option Reason → List Key → List Standing → List Logged → ℕ → ℕ → Type 0
IsWhole seats remaining stop ks xs es used capacity =
    IsBook ks xs es × (stop ≡ first_stop es) × HasRoom seats remaining (events_in ks xs es) used capacity
