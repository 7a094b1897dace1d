-- What contracts see of a book: its list of keys and its log.
use Rattle.std.specs.Prelude.{◌≡◌, ℕ, ◌<◌, List, [], ◌∷◌, ◌++◌, length, Option, Some, None, slice_get, unwrap_or, map, Bool, nat_eq, if◌then◌else◌}
use Rattle.std.specs.List.{flat_map, list_any}
use Rattle.gn_paths.specs.declared.place.Place.{Place}
use Rattle.gn_core.specs.Keys.{Key, Read, Answer, record_is, same_key}
use Rattle.gn_core.specs.Machine.{State, Event, Claim, Block, File, Stop, Cause, failed, too_large, no_memory, replay}
use Rattle.gn_book.specs.declared.event.Event.{Event as Logged}
use Rattle.gn_book.specs.declared.event.Event.TheVariants as logged
use Rattle.gn_book.specs.declared.event.Cause.{Cause as Reason}
use Rattle.gn_book.specs.declared.event.Cause.TheVariants as reason

-- how many seats may write, the keys that have numbers, each at its number, and the events, the first one first
pub record Log : Type 0 where
  pub seats : ℕ
  pub keys : List Key
  pub events : List Event

-- nothing is filed, claimed or blocked, and nothing has stopped
abbrev pub opening : State
opening = record { filed = λ k. None; claims = λ k. None; blocks = λ k. None; stops = [] }

-- the state that the log leaves
abbrev pub state_of : Log → State
state_of l = replay opening l.events

-- no key has two numbers
abbrev pub KeysDiffer : Log → Type 0
KeysDiffer l = (i j : ℕ) (k : Key) → slice_get l.keys i ≡ Some k → slice_get l.keys j ≡ Some k → i ≡ j

-- one more event
abbrev pub with_event : Log → Event → Log
with_event l e = record { seats = l.seats; keys = l.keys; events = l.events ++ e ∷ [] }

-- one more key, unless it has a number
abbrev pub with_key : Log → Key → Log
with_key l k = record { seats = l.seats; keys = if list_any (same_key k) l.keys then l.keys else l.keys ++ k ∷ []; events = l.events }

-- the key of a number
abbrev pub key_at : Log → ℕ → Key
key_at l n = unwrap_or (slice_get l.keys n) (Read [])

-- the key of a number waits for that of another
abbrev pub block_event : Log → ℕ → ℕ → ℕ → Place → Bool → Event
block_event l seat n on place closes = Block seat (key_at l n) (key_at l on) place closes

-- the key has no answer and nobody has claimed it
pub record IsFree (s : State) (k : Key) : Type 0 where
  pub unclaimed : s.claims k ≡ None
  pub unfiled : s.filed k ≡ None

-- a cause and an event whose keys are numbers, and whose answers are those of the keys
abbrev pub cause_in : (ℕ → Key) → Reason → Cause
cause_in names (reason.Failed n) = failed (names n)
cause_in names reason.TooLarge = too_large
cause_in names reason.Memory = no_memory

-- the key of a cause has a number
abbrev pub HasKeys : Log → Reason → Type 0
HasKeys l (reason.Failed n) = n < length l.keys
HasKeys l reason.TooLarge = Unit {0}
HasKeys l reason.Memory = Unit {0}

abbrev pub event_in : (ℕ → Key) → (ℕ → Answer) → Logged → Event
event_in names answers (logged.Claim seat n) = Claim seat (names n)
event_in names answers (logged.Block seat n b) = Block seat (names n) (names b.on) b.place b.closes
event_in names answers (logged.File seat n) = File seat (names n) (answers n)
event_in names answers (logged.Stop seat c) = Stop seat (cause_in names c)

-- the answer that the state has of the key of a number
abbrev pub answer_by : State → Option Key → Answer
answer_by s None = record_is []
answer_by s (Some k) = unwrap_or (s.filed k) (record_is [])

abbrev pub answer_at : Log → ℕ → Answer
answer_at l n = answer_by (state_of l) (slice_get l.keys n)

-- events by number, as they are
abbrev pub events_by : Log → List Logged → List Event
events_by l es = map (event_in (key_at l) (answer_at l)) es

-- the seats that have stopped
abbrev pub stopped_seat : Event → List ℕ
stopped_seat (Stop seat cause) = seat ∷ []
stopped_seat (Claim seat k) = []
stopped_seat (Block seat k on p c) = []
stopped_seat (File seat k v) = []

abbrev pub stopped_seats : List Event → List ℕ
stopped_seats es = flat_map stopped_seat es

abbrev pub has_stopped : List Event → ℕ → Bool
has_stopped es seat = list_any (nat_eq seat) (stopped_seats es)

-- the earlier of two, where there is one
abbrev pub earlier : {A : Type 0} → Option A → Option A → Option A
earlier None later = later
earlier (Some x) later = Some x

-- the cause of the first stop: the causes of a state have the last one first
abbrev pub first_cause : List Cause → Option Cause
first_cause [] = None
first_cause (c ∷ cs) = earlier (first_cause cs) (Some c)
