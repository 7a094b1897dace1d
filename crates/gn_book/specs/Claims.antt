-- The seats that have claimed keys.
use Rattle.std.specs.Prelude.{◌≡◌, ℕ, ◌<◌, length, Some, Bool}
use Rattle.gn_paths.specs.declared.place.Place.{Place}
use Rattle.gn_core.specs.Keys.{Key, Answer}
use Rattle.gn_core.specs.Machine.{Claim, File, Stop, Cause}
use Rattle.gn_book.specs.Logs.{Log, state_of, key_at, with_key, with_event, block_event, IsFree}

-- a seat has claimed the key of a number
pub record HasClaim (l : Log) (n seat : ℕ) : Type 0 where
  pub number : n < length l.keys
  pub claimed : (state_of l).claims (key_at l n) ≡ Some seat

-- who claims a key, or waits for one that nobody has claimed, has it
abbrev pub ClaimsAreGiven : Type 0
ClaimsAreGiven = (l : Log) (seat n : ℕ) → n < length l.keys
    → HasClaim (with_event l (Claim seat (key_at l n))) n seat
    × ((m : ℕ) (place : Place) (closes : Bool) → IsFree (state_of l) (key_at l n) → HasClaim (with_event l (block_event l seat m n place closes)) n seat)

-- whatever happens, a key that a seat has claimed stays claimed by it, until its answer is filed
abbrev pub ClaimsStay : Type 0
ClaimsStay = (l : Log) (n seat : ℕ) → HasClaim l n seat
    → ((k : Key) → HasClaim (with_key l k) n seat)
    × ((other : ℕ) (k : Key) → IsFree (state_of l) k → HasClaim (with_event l (Claim other k)) n seat)
    × ((other m on : ℕ) (place : Place) (closes : Bool) → HasClaim (with_event l (block_event l other m on place closes)) n seat)
    × ((other : ℕ) (k : Key) (v : Answer) → (key_at l n ≡ k → ⊥) → HasClaim (with_event l (File other k v)) n seat)
    × ((other : ℕ) (cause : Cause) → HasClaim (with_event l (Stop other cause)) n seat)
