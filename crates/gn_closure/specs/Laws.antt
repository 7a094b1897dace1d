-- The laws of the computed least set.
use Rattle.std.specs.Prelude.{◌≡◌, ℕ, ◌+◌, ◌<◌, ◌≤◌, ltb, List, length, None, ◌⊎◌, ◌↔◌, Bool, true, ◌||◌}
use Rattle.std.specs.List.{IsDistinct, filter}
use Rattle.std.specs.Set.{is_member}
use Rattle.std.specs.Bool.{Decides}
use Rattle.gn_closure.specs.Closure.{System, Holds, facts, next_open, opened}

-- the test of a system's facts decides whether they are one
abbrev pub IsTested : {F : Type 0} → System F → Type 0
IsTested {F} s = (a b : F) → Decides (s.same a b) (a ≡ b)

-- nothing more opens rules
abbrev pub IsAtRest : {F : Type 0} → System F → ℕ → Type 0
IsAtRest s n = next_open s (facts s (opened s n)) (opened s n) ≡ None

-- the facts that opened their rules are different, open rules and hold
pub record IsOpened {F : Type 0} (s : System F) (n : ℕ) : Type 0 where
  pub distinct : IsDistinct s.same (opened s n)
  pub opens : (t : F) → is_member s.same (opened s n) t ≡ true → s.opens t ≡ true
  pub holds : (t : F) → is_member s.same (opened s n) t ≡ true → Holds s t

-- what is computed holds
abbrev pub IsSound : {F : Type 0} → System F → ℕ → Type 0
IsSound {F} s n = (f : F) → is_member s.same (facts s (opened s n)) f ≡ true → Holds s f

-- at rest, all that holds is computed, and what opens rules has opened them
abbrev pub IsWhole : {F : Type 0} → System F → ℕ → Type 0
IsWhole {F} s n = (f : F) → Holds s f → (is_member s.same (facts s (opened s n)) f ≡ true) × (s.opens f ≡ true → is_member s.same (opened s n) f ≡ true)

-- it is at rest, or as many have opened their rules as could
abbrev pub RestsOrIsFull : {F : Type 0} → System F → ℕ → Type 0
RestsOrIsFull s n = IsAtRest s n ⊎ (n ≤ length (opened s n))

-- more than so many facts of a kind open rules and hold
abbrev pub AreMoreThan : {F : Type 0} → System F → (F → Bool) → ℕ → Type 0
AreMoreThan {F} s kind limit =
    (xs : List F) × IsDistinct s.same xs × (limit < length xs) × ((x : F) → is_member s.same xs x ≡ true → (kind x ≡ true) × (s.opens x ≡ true) × Holds s x)

abbrev pub count_of : {F : Type 0} → System F → ℕ → (F → Bool) → ℕ
count_of s n kind = length (filter kind (opened s n))

-- whether facts of one of two kinds are more than their limit
abbrev pub exceeds : {F : Type 0} → System F → ℕ → (F → Bool) → ℕ → (F → Bool) → ℕ → Bool
exceeds s n kind limit other bound = ltb limit (count_of s n kind) || ltb bound (count_of s n other)

-- each fact that opens rules is of one of two kinds
abbrev pub AreOfTwoKinds : {F : Type 0} → System F → (F → Bool) → (F → Bool) → Type 0
AreOfTwoKinds {F} s kind other = (f : F) → s.opens f ≡ true → (kind f ≡ true) ⊎ (other f ≡ true)

-- with more rounds than both limits together, the limits are computed rightly
abbrev pub ExceedsExactly : {F : Type 0} → System F → ℕ → (F → Bool) → ℕ → (F → Bool) → ℕ → Type 0
ExceedsExactly s n kind limit other bound = (exceeds s n kind limit other bound ≡ true) ↔ (AreMoreThan s kind limit ⊎ AreMoreThan s other bound)

-- and where none is exceeded, all that holds is computed
abbrev pub IsWholeWithin : {F : Type 0} → System F → ℕ → (F → Bool) → ℕ → (F → Bool) → ℕ → Type 0
IsWholeWithin s n kind limit other bound = (exceeds s n kind limit other bound ≡ true → ⊥) → IsWhole s n

-- for each number of rounds, and for each two kinds of facts and limits with more rounds than both limits together
abbrev pub IsAlwaysSound : {F : Type 0} → System F → Type 0
IsAlwaysSound s = (n : ℕ) → IsSound s n

abbrev pub IsWholeWithinLimits : {F : Type 0} → System F → Type 0
IsWholeWithinLimits {F} s =
    (n : ℕ) (kind : F → Bool) (limit : ℕ) (other : F → Bool) (bound : ℕ) → AreOfTwoKinds s kind other → limit + bound < n → IsWholeWithin s n kind limit other bound

abbrev pub ExceedsLimitsExactly : {F : Type 0} → System F → Type 0
ExceedsLimitsExactly {F} s =
    (n : ℕ) (kind : F → Bool) (limit : ℕ) (other : F → Bool) (bound : ℕ) → AreOfTwoKinds s kind other → limit + bound < n → ExceedsExactly s n kind limit other bound
