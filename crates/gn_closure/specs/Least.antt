-- What is computed is the least set of the rules, where no limit is exceeded.
use Rattle.std.specs.Prelude.{◌≡◌, ℕ, ◌<◌, List, length, ◌⊎◌, ◌↔◌, true}
use Rattle.std.specs.List.{IsDistinct}
use Rattle.gn_closure.specs.Closure.{In}
use Rattle.gn_closure.specs.Reach.{Unit_key, Setup, Load, Units, Fact, Is_reached, Holds}
use Rattle.gn_closure.specs.Computed.{same_unit, load_limit, setup_limit, is_too_large, holds_in}

abbrev pub IsLoad : Unit_key → Type 0
IsLoad (Setup t) = ⊥
IsLoad (Load d t) = Unit {0}

abbrev pub IsSetup : Unit_key → Type 0
IsSetup (Setup t) = Unit {0}
IsSetup (Load d t) = ⊥

-- more than so many units are reached, all of one kind
abbrev pub ReachesMore : (Unit_key → Type 0) → (List ℕ → List ℕ) → Units → ℕ → Type 0
ReachesMore kind home a limit = (ks : List Unit_key) × IsDistinct same_unit ks × (limit < length ks) × ((k : Unit_key) → In ks k → kind k × Holds home a (Is_reached k))

-- the build exceeds a limit
abbrev pub IsTooLarge : (List ℕ → List ℕ) → Units → Type 0
IsTooLarge home a = ReachesMore IsLoad home a load_limit ⊎ ReachesMore IsSetup home a setup_limit

abbrev pub LimitsAreExact : Type 0
LimitsAreExact = (home : List ℕ → List ℕ) (a : Units) → (is_too_large home a ≡ true) ↔ IsTooLarge home a

abbrev pub ComputedIsSound : Type 0
ComputedIsSound = (home : List ℕ → List ℕ) (a : Units) (f : Fact) → holds_in home a f ≡ true → Holds home a f

abbrev pub ComputedIsLeast : Type 0
ComputedIsLeast = (home : List ℕ → List ℕ) (a : Units) → (IsTooLarge home a → ⊥) → (f : Fact) → (holds_in home a f ≡ true) ↔ Holds home a f
