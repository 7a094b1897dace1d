-- What a seat that has no claim does next.
use Rattle.std.specs.Prelude.{◌≡◌, ℕ, ◌<◌, [], length, Option, Some, None, true}
use Rattle.gn_core.specs.Keys.{Key}
use Rattle.gn_book.specs.declared.next.Next.{Next}
use Rattle.gn_book.specs.declared.next.Next.TheVariants.{Work, Later, Quiet, Stopped}
use Rattle.gn_book.specs.Logs.{Log, state_of, key_at, IsFree, cause_in, first_cause}
use Rattle.gn_book.specs.Tasks.{is_task, IsNoLater}

-- the key of a number is a task that nobody has claimed and that has no answer
pub record IsReadyNumber (l : Log) (n : ℕ) : Type 0 where
  pub number : n < length l.keys
  pub task : is_task (key_at l n) ≡ true
  pub free : IsFree (state_of l) (key_at l n)

abbrev pub NoneIsReady : Log → Type 0
NoneIsReady l = (n : ℕ) → IsReadyNumber l n → ⊥

abbrev pub NoneIsClaimed : Log → Type 0
NoneIsClaimed l = (k : Key) → (state_of l).claims k ≡ None

abbrev pub NoneHasStopped : Log → Type 0
NoneHasStopped l = (state_of l).stops ≡ []

abbrev pub HasNoClaim : Log → ℕ → Type 0
HasNoClaim l seat = (k : Key) → (state_of l).claims k ≡ Some seat → ⊥

-- Where a seat has stopped, the cause of the first stop. Else the first of the keys that are ready; where none is, a key that another seat has claimed;
-- and quiet where none is ready and none is claimed
abbrev pub NextIs : Log → ℕ → Next → Type 0
NextIs l seat (Work n) = NoneHasStopped l × IsReadyNumber l n × ((m : ℕ) → IsReadyNumber l m → IsNoLater (key_at l n) (key_at l m))
NextIs l seat (Later n other) =
    NoneHasStopped l × NoneIsReady l × (n < length l.keys) × ((state_of l).claims (key_at l n) ≡ Some other) × (other ≡ seat → ⊥)
NextIs l seat Quiet = NoneHasStopped l × NoneIsReady l × NoneIsClaimed l
NextIs l seat (Stopped cause) = first_cause (state_of l).stops ≡ Some (cause_in (key_at l) cause)

-- what comes next, by the first number that is ready and by one that is claimed
abbrev pub next_by : Option ℕ → Option (ℕ × ℕ) → Next
next_by (Some n) held = Work n
next_by None (Some held) = Later held.0 held.1
next_by None None = Quiet
