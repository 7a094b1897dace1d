-- The log of a book as a run of loading: the rules of which events are allowed are those of the core, over any evaluator.
use Rattle.std.specs.Prelude.{◌≡◌, ℕ, List, Some, Bool, false}
use Rattle.gn_paths.specs.declared.place.Place.{Place}
use Rattle.gn_core.specs.Keys.{Key, Answer}
use Rattle.gn_core.specs.Worlds.{World}
use Rattle.gn_core.specs.Machine.{State, Event, Claim, Block, File, Allowed, Runs, IsOpening}
use Rattle.gn_book.specs.Logs.{Log, opening, state_of, with_event, IsFree}

-- a book without events is in the opening state of a build of which no file is known
abbrev pub IsOpenAtFirst : Type 0
IsOpenAtFirst = (w : World) → IsOpening w (λ path. false) opening

-- a run and one more event that is allowed are a run
abbrev pub EventsExtendRuns : Type 0
EventsExtendRuns = (w : World) (known : List ℕ → Bool) (l : Log) (e : Event) → Runs w known opening l.events → Allowed w known (state_of l) e → Runs w known opening (with_event l e).events

-- what the calls of a book ask of an event holds of each event that is allowed
abbrev pub AsksNoMore : Type 0
AsksNoMore = (w : World) (known : List ℕ → Bool) (s : State)
    → ((seat : ℕ) (k : Key) → Allowed w known s (Claim seat k) → IsFree s k)
    × ((seat : ℕ) (k on : Key) (place : Place) (closes : Bool) → Allowed w known s (Block seat k on place closes) → s.claims k ≡ Some seat)
    × ((seat : ℕ) (k : Key) (v : Answer) → Allowed w known s (File seat k v) → s.claims k ≡ Some seat)
