-- What is wanted of a tree, and what loading comes to in any order of its events.
use Rattle.std.specs.Prelude.{◌≡◌, ℕ, ◌+◌, ◌≤◌, List, [], ◌∷◌, Option, Some, None, ◌⊎◌, ◌↔◌, Bool, cond}
use Rattle.gn_closure.specs.Closure.{In}
use Rattle.gn_labels.specs.declared.label.Label.{Label}
use Rattle.gn_closure.specs.Reach.{Target, Units, Is_reached, Is_generated, Holds}
use Rattle.gn_core.specs.Keys.{Key, Read, Import, Unit_of, Resolve, Answer, units, same_key}
use Rattle.gn_core.specs.Worlds.{World, true_meaning, all_meanings}
use Rattle.gn_core.specs.Layered.{IsLayered}
use Rattle.gn_core.specs.Machine.{State, Event, Claim, Block, File, Stop, too_large, happens, replay, Defines, UnitsAreDone, IsFiled, IsNeeded, Exceeds, FiledExceeds, Runs, IsOver, HasLoaded, IsQuiet, IsOpening}

-- the labels that can be resolved: the least set
pub data Resolvable (w : World) (a : Units) : Label → Type 0 where
  resolvable : (l : Label) → Holds w.home a (Is_generated l)
      → UnitsAreDone w a l
      → ((t : Target) → Defines w a l t → (m : Label) → In t.deps m → (u : Target) × Defines w a m u)
      → ((t : Target) → Defines w a l t → (m : Label) → In t.deps m → Resolvable w a m)
      → Resolvable w a l

-- what a tree wants: the reached units, what they ask, and the labels that can be resolved
abbrev pub Wanted : World → Key → Type 0
Wanted w (Read path) = IsNeeded w (all_meanings w) (Read path)
Wanted w (Import l path) = IsNeeded w (all_meanings w) (Import l path)
Wanted w (Unit_of k) = Holds w.home (units (all_meanings w)) (Is_reached k)
Wanted w (Resolve l) = Resolvable w (units (all_meanings w)) l

-- a run over a tree, from the opening state of what the setup knows
pub record IsLoadingRun (w : World) (known : List ℕ → Bool) (s : State) (es : List Event) : Type 0 where
  pub layered : IsLayered w
  pub opening : IsOpening w known s
  pub runs : Runs w known s es
  pub over : IsOver w es

-- each filed answer is the meaning of its key
abbrev pub FiledAreMeanings : Type 0
FiledAreMeanings = (w : World) (known : List ℕ → Bool) (s : State) (es : List Event) → IsLoadingRun w known s es
    → (k : Key) (v : Answer) → (replay s es).filed k ≡ Some v → v ≡ true_meaning w k

-- each claimed key is wanted
abbrev pub ClaimedAreWanted : Type 0
ClaimedAreWanted = (w : World) (known : List ℕ → Bool) (s : State) (es : List Event) → IsLoadingRun w known s es
    → (k : Key) (seat : ℕ) → (replay s es).claims k ≡ Some seat → Wanted w k

-- how often a key is claimed and filed
abbrev pub one_if_same : Key → Key → Option ℕ → ℕ
one_if_same q k None = cond (same_key q k) 1 0
one_if_same q k (Some seat) = 0

abbrev pub claims_now : State → Event → Key → ℕ
claims_now s (Claim seat q) k = one_if_same q k None
claims_now s (Block seat q on p c) k = one_if_same on k (s.claims on)
claims_now s (File seat q v) k = 0
claims_now s (Stop seat c) k = 0

abbrev pub files_now : Event → Key → ℕ
files_now (File seat q v) k = cond (same_key q k) 1 0
files_now _ k = 0

abbrev pub claim_count : State → List Event → Key → ℕ
claim_count s [] k = 0
claim_count s (e ∷ es) k = claims_now s e k + claim_count (happens s e) es k

abbrev pub file_count : List Event → Key → ℕ
file_count [] k = 0
file_count (e ∷ es) k = files_now e k + file_count es k

-- and that is at most once
abbrev pub AtMostOnce : Type 0
AtMostOnce = (w : World) (known : List ℕ → Bool) (s : State) (es : List Event) → IsLoadingRun w known s es
    → (k : Key) → (claim_count s es k ≤ 1) × (file_count es k ≤ 1)

-- a quiet state has filed what is wanted, beside what was there at first
abbrev pub QuietIsWhole : Type 0
QuietIsWhole = (w : World) (known : List ℕ → Bool) (s : State) (es : List Event) → IsLoadingRun w known s es → IsQuiet w (replay s es)
    → (k : Key) → IsFiled (replay s es).filed k ↔ (Wanted w k ⊎ IsFiled s.filed k)

-- so two quiet states over one tree are equal
abbrev pub QuietAgree : Type 0
QuietAgree = (w : World) (known : List ℕ → Bool) (s : State) (es fs : List Event) → IsLoadingRun w known s es → IsLoadingRun w known s fs
    → IsQuiet w (replay s es) → IsQuiet w (replay s fs) → (k : Key) → (replay s es).filed k ≡ (replay s fs).filed k

-- that the build is too large is recorded only where it is, and where all is loaded what is filed shows whether it is
abbrev pub LimitsAgree : Type 0
LimitsAgree = (w : World) (known : List ℕ → Bool) (s : State) (es : List Event) → IsLoadingRun w known s es
    → (In (replay s es).stops too_large → Exceeds w known (all_meanings w))
    × (HasLoaded w (replay s es) → FiledExceeds w known (replay s es).filed ↔ Exceeds w known (all_meanings w))
