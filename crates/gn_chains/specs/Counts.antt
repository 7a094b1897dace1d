-- How many of those that depend on a number aren't placed.
use Rattle.std.specs.Prelude.{ℕ, zero, suc, ◌+◌, ◌-◌, List, [], ◌∷◌, ◌++◌, Option, Some, None, Bool, false, cond, ◌&&◌, not, count_by, nat_eq}
use Rattle.gn_chains.specs.Numbers.{among}

-- the numbers below a count
abbrev pub numbers : ℕ → List ℕ
numbers zero = []
numbers (suc n) = numbers n ++ n ∷ []

-- how many of these depend on q and aren't placed
abbrev pub open_count : (ℕ → List ℕ) → List ℕ → List ℕ → ℕ → ℕ
open_count next ws placed q = count_by (λ z. not (among placed z) && among (next z) q) ws

abbrev pub count_at : (ℕ → List ℕ) → List ℕ → List ℕ → ℕ → Option ℕ
count_at next ws placed q = cond (among ws q) (Some (open_count next ws placed q)) None

abbrev pub is_zero : Option ℕ → Bool
is_zero None = false
is_zero (Some n) = nat_eq n 0

-- a count, one more or less where the test holds
abbrev pub raised : Bool → Option ℕ → Option ℕ
raised b None = None
raised b (Some n) = Some (n + cond b 1 0)

abbrev pub lessened : Bool → Option ℕ → Option ℕ
lessened b None = None
lessened b (Some n) = Some (n - cond b 1 0)
