-- Keys by number, how each stands, and which of them are ready and which are claimed.
use Rattle.std.specs.Prelude.{◌≡◌, ℕ, ◌<◌, ◌≤◌, Bool, List, [], ◌∷◌, ◌++◌, length, Option, Some, None, slice_get, slice_set, true, false, if◌then◌else◌}
use Rattle.std.specs.List.{list_any}
use Rattle.gn_core.specs.Keys.{Key, same_key}
use Rattle.gn_book.specs.declared.task.Task.{Task}
use Rattle.gn_book.specs.Standings.{Standing, is_open, seat_in, IsTable}
use Rattle.gn_book.specs.Tasks.{Numbers, Seats, is_task, key_in, IsNoLater}

-- the keys, each at its number, and how each stands
pub record Table : Type 0 where
  pub keys : List Key
  pub standings : List Standing

abbrev pub table_of : List Key → List Standing → Table
table_of ks xs = record { keys = ks; standings = xs }

-- the key of a number stands otherwise
abbrev pub with_standing : Table → ℕ → Standing → Table
with_standing t n y = record { keys = t.keys; standings = slice_set t.standings n y }

-- one more key, which stands open; and unless it has a number
abbrev pub with_key : Table → Key → Table
with_key t k = record { keys = t.keys ++ k ∷ []; standings = t.standings ++ is_open ∷ [] }

abbrev pub with_number : Table → Key → Table
with_number t k = if list_any (same_key k) t.keys then t else with_key t k

-- the number of a key in a list, if it has one
abbrev pub IsNumberOf : List Key → Key → Option ℕ → Type 0
IsNumberOf ks k None = list_any (same_key k) ks ≡ false
IsNumberOf ks k (Some n) = slice_get ks n ≡ Some k

-- a seat has claimed the key of a number
abbrev pub IsHeld : Table → ℕ → Type 0
IsHeld t n = (seat : ℕ) × (seat_in (slice_get t.standings n) ≡ Some seat)

-- a number is that of a task that nobody has claimed and that has no answer
abbrev pub IsReadyAt : Table → ℕ → Key → Type 0
IsReadyAt t n k = (slice_get t.keys n ≡ Some k) × (slice_get t.standings n ≡ Some is_open) × (is_task k ≡ true)

-- the number of the first of them
abbrev pub IsFirstReady : Table → Option ℕ → Type 0
IsFirstReady t None = (n : ℕ) (k : Key) → IsReadyAt t n k → ⊥
IsFirstReady t (Some n) = (k : Key) × IsReadyAt t n k × ((m : ℕ) (q : Key) → IsReadyAt t m q → IsNoLater k q)

-- the first of those below a number
abbrev pub IsFirstBelow : Table → ℕ → Option ℕ → Type 0
IsFirstBelow t end None = (n : ℕ) (k : Key) → n < end → IsReadyAt t n k → ⊥
IsFirstBelow t end (Some n) = (k : Key) × IsReadyAt t n k × ((m : ℕ) (q : Key) → m < end → IsReadyAt t m q → IsNoLater k q)

-- whether a number is one of them
abbrev pub TellsReady : Table → ℕ → Bool → Type 0
TellsReady t n true = (k : Key) × IsReadyAt t n k
TellsReady t n false = (k : Key) → IsReadyAt t n k → ⊥

-- a number whose key a seat has claimed, and that seat
abbrev pub IsOneHeld : Table → Option (ℕ × ℕ) → Type 0
IsOneHeld t None = (n : ℕ) → seat_in (slice_get t.standings n) ≡ None
IsOneHeld t (Some held) = seat_in (slice_get t.standings held.0) ≡ Some held.1

-- what is kept of keys: no key has two numbers, of the numbers below one just the tasks that stand open are listed as ready, and each key that a seat has claimed is held
pub record IsRoster (ks : List Key) (xs : List Standing) (ready : Numbers) (held : Seats) (fresh : ℕ) : Type 0 where
  pub table : IsTable ks
  pub sized : length xs ≡ length ks
  pub within : fresh ≤ length ks
  pub sound : (t : Task) (n : ℕ) → ready t ≡ Some n → (slice_get ks n ≡ Some (key_in t)) × (slice_get xs n ≡ Some is_open) × (n < fresh)
  pub whole : (t : Task) (n : ℕ) → slice_get ks n ≡ Some (key_in t) → slice_get xs n ≡ Some is_open → n < fresh → ready t ≡ Some n
  pub seated : (n : ℕ) → held n ≡ seat_in (slice_get xs n)
