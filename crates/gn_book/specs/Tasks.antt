-- Keys that seats take up by themselves, and the order in which they are given out.
use Rattle.std.specs.Prelude.{◌≡◌, ℕ, List, [], ◌∷◌, Option, Some, None, Bool, true, false, cond, nat_eq}
use Rattle.std.specs.declared.cmp.Ordering.{Ordering}
use Rattle.std.specs.Ordering.{nat_cmp, is_gt}
use Rattle.std.specs.Cmp.Lexicographic.{slice_cmp}
use Rattle.gn_closure.specs.Reach.{Setup, Load}
use Rattle.gn_core.specs.Keys.{Key, Read, Import, Unit_of, Resolve, same_key}
use Rattle.gn_items.specs.declared.key.Key.{Key as Named}
use Rattle.gn_items.specs.declared.key.Key.TheVariants.{Setup as setup_key, Load as load_key, Resolve as resolve_key}
use Rattle.gn_book.specs.declared.task.Task.{Task}
use Rattle.gn_book.specs.declared.task.Task.TheVariants as task
use Rattle.gn_book.specs.declared.task.Turn.{Turn}
use Rattle.gn_book.specs.declared.task.Turn.TheVariants as turn
use Rattle.gn_book.specs.Keys.{key_of}

-- units and labels are tasks; reads and imports are claimed only by what needs them
abbrev pub is_task : Key → Bool
is_task (Read path) = false
is_task (Import layer path) = false
is_task (Unit_of unit) = true
is_task (Resolve label) = true

-- The texts by which tasks are in order: build configurations stand first, by toolchain; then build files, by directory and toolchain; then records, by
-- directory, name and toolchain
abbrev pub turn_of : Key → List (List ℕ)
turn_of (Read path) = []
turn_of (Import layer path) = []
turn_of (Unit_of (Setup toolchain)) = (0 ∷ []) ∷ toolchain ∷ []
turn_of (Unit_of (Load dir toolchain)) = (1 ∷ []) ∷ dir ∷ toolchain ∷ []
turn_of (Resolve label) = (2 ∷ []) ∷ label.dir ∷ label.name ∷ label.toolchain ∷ []

abbrev pub turn_order : Key → Key → Ordering
turn_order k q = slice_cmp (slice_cmp nat_cmp) (turn_of k) (turn_of q)

-- those of a key that is lent
abbrev pub texts_in : Turn → List (List ℕ)
texts_in turn.NoTask = []
texts_in (turn.Setup toolchain) = (0 ∷ []) ∷ toolchain.now ∷ []
texts_in (turn.Load dir toolchain) = (1 ∷ []) ∷ dir.now ∷ toolchain.now ∷ []
texts_in (turn.Resolve label) = (2 ∷ []) ∷ label.now.dir ∷ label.now.name ∷ label.now.toolchain ∷ []

-- the first of two tasks isn't given out after the second
abbrev pub IsNoLater : Key → Key → Type 0
IsNoLater k q = is_gt (turn_order k q) ≡ false

-- the key of a task
abbrev pub named_by : Task → Named
named_by (task.Setup toolchain) = setup_key toolchain
named_by (task.Load dir toolchain) = load_key dir toolchain
named_by (task.Resolve label) = resolve_key label

abbrev pub key_in : Task → Key
key_in t = key_of (named_by t)

-- the task of a key
abbrev pub IsTaskOf : Key → Option Task → Type 0
IsTaskOf k None = is_task k ≡ false
IsTaskOf k (Some t) = key_in t ≡ k

-- numbers of tasks, and seats of numbers
abbrev pub Numbers : Type 0
Numbers = Task → Option ℕ

abbrev pub Seats : Type 0
Seats = ℕ → Option ℕ

-- a key has another number, or none
abbrev pub IsPut : Numbers → Numbers → Key → Option ℕ → Type 0
IsPut old new k n = (t : Task) → new t ≡ cond (same_key k (key_in t)) n (old t)

abbrev pub AreKept : Numbers → Numbers → Type 0
AreKept old new = (t : Task) → new t ≡ old t

-- a number has another seat, or none
abbrev pub IsSeated : Seats → Seats → ℕ → Option ℕ → Type 0
IsSeated old new n seat = (m : ℕ) → new m ≡ cond (nat_eq n m) seat (old m)

abbrev pub SeatsAreKept : Seats → Seats → Type 0
SeatsAreKept old new = (m : ℕ) → new m ≡ old m

-- the number of the first task that has one
abbrev pub IsFirst : Numbers → Option ℕ → Type 0
IsFirst numbers None = (t : Task) → numbers t ≡ None
IsFirst numbers (Some n) = (t : Task) × (numbers t ≡ Some n) × ((u : Task) (m : ℕ) → numbers u ≡ Some m → IsNoLater (key_in t) (key_in u))

-- a number that has a seat, and that seat
abbrev pub IsOneSeated : Seats → Option (ℕ × ℕ) → Type 0
IsOneSeated seats None = (n : ℕ) → seats n ≡ None
IsOneSeated seats (Some held) = seats held.0 ≡ Some held.1
