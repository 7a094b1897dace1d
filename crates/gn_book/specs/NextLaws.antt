-- The laws of what comes next.
use Rattle.std.specs.Prelude.{◌≡◌, ℕ, List, ◌↔◌, Some, None, slice_get, true}
use Rattle.gn_labels.specs.declared.label.Label.{Label}
use Rattle.gn_closure.specs.Reach.{Setup, Load}
use Rattle.gn_core.specs.Keys.{Key, Unit_of, Resolve}
use Rattle.gn_core.specs.Worlds.{World}
use Rattle.gn_core.specs.Machine.{IsReachedKey, IsReady, IsQuiet}
use Rattle.gn_book.specs.declared.next.Next.{Next}
use Rattle.gn_book.specs.declared.next.Next.TheVariants.{Work, Later, Quiet, Stopped}
use Rattle.gn_book.specs.Logs.{Log, state_of, key_at, cause_in, first_cause}
use Rattle.gn_book.specs.Tasks.{is_task, IsNoLater}
use Rattle.gn_book.specs.Next.{NextIs}

-- build configurations are given out before build files, and these before records
abbrev pub KindsAreInOrder : Type 0
KindsAreInOrder =
    (toolchain dir other : List ℕ) (label : Label)
    → IsNoLater (Unit_of (Setup toolchain)) (Unit_of (Load dir other)) × IsNoLater (Unit_of (Load dir other)) (Resolve label)

-- two tasks neither of which comes later are one
abbrev pub TasksHaveNoTies : Type 0
TasksHaveNoTies = (k q : Key) → is_task k ≡ true → is_task q ≡ true → IsNoLater k q → IsNoLater q k → k ≡ q

-- the key has a number
abbrev pub HasNumber : Log → Key → Type 0
HasNumber l k = (n : ℕ) × (slice_get l.keys n ≡ Some k)

-- of the keys without answer, the tasks that have numbers are those that may be claimed
abbrev pub NumbersAreReached : World → Log → Type 0
NumbersAreReached w l = (k : Key) → (state_of l).filed k ≡ None → IsReachedKey w (state_of l).filed k ↔ ((is_task k ≡ true) × HasNumber l k)

-- what comes next, by the rules of loading
abbrev pub NextByRules : World → Log → ℕ → Next → Type 0
NextByRules w l seat (Work n) = IsReady w (state_of l) (key_at l n) × ((k : Key) → IsReady w (state_of l) k → IsNoLater (key_at l n) k)
NextByRules w l seat (Later n other) =
    ((k : Key) → IsReady w (state_of l) k → ⊥) × ((state_of l).claims (key_at l n) ≡ Some other) × (other ≡ seat → ⊥)
NextByRules w l seat Quiet = IsQuiet w (state_of l)
NextByRules w l seat (Stopped cause) = first_cause (state_of l).stops ≡ Some (cause_in (key_at l) cause)

abbrev pub NextIsByRules : Type 0
NextIsByRules = (w : World) (l : Log) (seat : ℕ) (next : Next) → NumbersAreReached w l → NextIs l seat next → NextByRules w l seat next

-- where a key is ready there is work, and in a quiet state it is quiet
abbrev pub ReadyMeansWork : Type 0
ReadyMeansWork =
    (w : World) (l : Log) (seat : ℕ) (next : Next) → NumbersAreReached w l → NextIs l seat next → (k : Key) → IsReady w (state_of l) k → (n : ℕ) × (next ≡ Work n)

abbrev pub QuietMeansQuiet : Type 0
QuietMeansQuiet = (w : World) (l : Log) (seat : ℕ) (next : Next) → NumbersAreReached w l → NextIs l seat next → IsQuiet w (state_of l) → next ≡ Quiet
