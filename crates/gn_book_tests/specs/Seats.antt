-- What seats have while imports wait for one another.
use Rattle.std.specs.Prelude.{◌≡◌, ℕ, Option, Some, None}
use Rattle.gn_core.specs.Keys.{Key}
use Rattle.gn_book.specs.declared.book.Claim.{Claim}
use Rattle.gn_book.specs.Logs.{Log, state_of, key_at}
use Rattle.gn_book.specs.Next.{IsReadyNumber}
use Rattle.gn_book.specs.Claims.{HasClaim}

-- the keys that were claimed are still claimed by the same seats, and have their numbers
abbrev pub KeepsClaims : Log → Log → Type 0
KeepsClaims old new = (n seat : ℕ) → HasClaim old n seat → HasClaim new n seat × (key_at new n ≡ key_at old n)

-- a claim that was given out is that of no other key that was claimed
pub record IsGiven (old new : Log) (c : Claim) : Type 0 where
  pub has : HasClaim new c.number c.seat
  pub apart : (n seat : ℕ) → HasClaim old n seat → key_at new n ≡ key_at new c.number → ⊥

-- what was claimed is claimed, and a claim may have been given out
abbrev pub IfTaken : Log → Log → Option Claim → Type 0
IfTaken old new None = KeepsClaims old new
IfTaken old new (Some c) = KeepsClaims old new × IsGiven old new c

-- the number of a key that is ready
abbrev pub IfReady : Log → Option ℕ → Type 0
IfReady l None = Unit {0}
IfReady l (Some n) = IsReadyNumber l n

-- the others that were claimed are still claimed
abbrev pub KeepsOthers : Log → Log → ℕ → Type 0
KeepsOthers old new m = (n seat : ℕ) → HasClaim old n seat → (key_at old n ≡ key_at old m → ⊥) → HasClaim new n seat

-- a seat has what it has claimed, and no other seat has anything
pub record HasAll (l : Log) (c : Claim) (seat : ℕ) : Type 0 where
  pub has : HasClaim l c.number c.seat
  pub is : c.seat ≡ seat
  pub alone : (k : Key) (other : ℕ) → (state_of l).claims k ≡ Some other → other ≡ seat
