-- How keys stand, by their numbers in a list of keys.
use Rattle.std.specs.Prelude.{◌≡◌, ℕ, List, [], ◌∷◌, Option, Some, None, slice_get, unwrap_or, option_map, cond, Bool, true, false}
use Rattle.gn_core.specs.Keys.{Key, Read, Answer, record_is, same_key}
use Rattle.gn_core.specs.Machine.{State, Blocked}
use Rattle.gn_book.specs.declared.status.Status.{Status}
use Rattle.gn_book.specs.declared.status.Status.TheVariants as status

-- nobody has claimed a key; a seat has; a seat has, and the key waits for another; or it has its answer
pub data Standing : Type 0 where
  is_open : Standing
  is_claimed : (seat : ℕ) → Standing
  is_blocked : (seat on : ℕ) → Standing
  is_filed : Answer → Standing

abbrev pub standing_of : {A : Type 0} → (A → Answer) → Status A → Standing
standing_of meaning status.Open = is_open
standing_of meaning (status.Claimed seat) = is_claimed seat
standing_of meaning (status.Blocked seat on) = is_blocked seat on
standing_of meaning (status.Filed answer) = is_filed (meaning answer)

abbrev pub stands_open : Standing → Bool
stands_open is_open = true
stands_open (is_claimed seat) = false
stands_open (is_blocked seat on) = false
stands_open (is_filed answer) = false

-- the seat that has claimed the key, the number of the key for which it waits, and its answer
abbrev pub seat_in : Option Standing → Option ℕ
seat_in None = None
seat_in (Some is_open) = None
seat_in (Some (is_claimed seat)) = Some seat
seat_in (Some (is_blocked seat on)) = Some seat
seat_in (Some (is_filed answer)) = None

abbrev pub on_in : Option Standing → Option ℕ
on_in None = None
on_in (Some is_open) = None
on_in (Some (is_claimed seat)) = None
on_in (Some (is_blocked seat on)) = Some on
on_in (Some (is_filed answer)) = None

abbrev pub answer_in : Option Standing → Option Answer
answer_in None = None
answer_in (Some is_open) = None
answer_in (Some (is_claimed seat)) = None
answer_in (Some (is_blocked seat on)) = None
answer_in (Some (is_filed answer)) = Some answer

-- how a key stands; one that isn't in the list has no standing
abbrev pub standing_at : List Key → List Standing → Key → Option Standing
standing_at [] xs k = None
standing_at (j ∷ ks) [] k = None
standing_at (j ∷ ks) (x ∷ xs) k = cond (same_key j k) (Some x) (standing_at ks xs k)

-- the key of a number
abbrev pub named : List Key → ℕ → Key
named ks n = unwrap_or (slice_get ks n) (Read [])

-- the answer of a number
abbrev pub told : List Standing → ℕ → Answer
told xs n = unwrap_or (answer_in (slice_get xs n)) (record_is [])

abbrev pub on_of : Option Blocked → Option Key
on_of None = None
on_of (Some b) = Some b.on

-- a state is what the keys of a list stand for
pub record Tied (ks : List Key) (xs : List Standing) (s : State) : Type 0 where
  pub filed : (k : Key) → answer_in (standing_at ks xs k) ≡ s.filed k
  pub claims : (k : Key) → seat_in (standing_at ks xs k) ≡ s.claims k
  pub blocks : (k : Key) → option_map (named ks) (on_in (standing_at ks xs k)) ≡ on_of (s.blocks k)

-- no key has two numbers
abbrev pub IsTable : List Key → Type 0
IsTable ks = (i j : ℕ) (k : Key) → slice_get ks i ≡ Some k → slice_get ks j ≡ Some k → i ≡ j

-- the number for which each one waits
abbrev pub next_of : List Standing → ℕ → Option ℕ
next_of xs n = on_in (slice_get xs n)
