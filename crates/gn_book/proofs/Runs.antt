-- The log of a book is a run.
use Rattle.std.proofs.Common.{List, [], ◌∷◌, ◌++◌, ℕ, Bool, refl}
use Rattle.gn_core.specs.Worlds.{World}
use Rattle.gn_core.specs.Machine.{State, Event, Allowed, Runs, happens, replay}
use Rattle.gn_book.specs.Logs.{opening}
use Rattle.gn_book.specs.Runs.{IsOpenAtFirst, EventsExtendRuns, AsksNoMore}

pub open_at_first : IsOpenAtFirst
open_at_first w = record {
  reads = λ path. refl;
  imports = λ l path. refl;
  units = λ k. refl;
  records = λ l. refl;
  claims = λ k. refl;
  blocks = λ k. refl;
  stops = refl;
}

runs_push : (w : World) (known : List ℕ → Bool) (s : State) (es : List Event) (e : Event) → Runs w known s es → Allowed w known (replay s es) e → Runs w known s (es ++ e ∷ [])
runs_push w known s [] e runs allowed = (allowed, tt)
runs_push w known s (x ∷ es) e runs allowed = (runs.0, runs_push w known (happens s x) es e runs.1 allowed)

pub events_extend : EventsExtendRuns
events_extend w known l e runs allowed = runs_push w known opening l.events e runs allowed

pub asks_no_more : AsksNoMore
asks_no_more w known s =
    ((λ seat k a. record { unclaimed = a.0.1; unfiled = a.0.2 }), (λ seat k on place closes a. a.0), (λ seat k v a. a.0))
