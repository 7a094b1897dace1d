-- Chains of keys that wait, by their numbers.
use Rattle.std.specs.Prelude.{◌≡◌, ℕ, zero, suc, Option, Some, None}

-- where each number leads
abbrev pub Next : Type 0
Next = ℕ → Option ℕ

abbrev pub walk_by : Option ℕ → (ℕ → Option ℕ) → Option ℕ
walk_by None go = None
walk_by (Some r) go = go r

-- where so many steps lead
abbrev pub walk : Next → ℕ → ℕ → Option ℕ
walk next zero q = Some q
walk next (suc n) q = walk_by (next q) (λ r. walk next n r)

-- the chain from a number leads to a number
abbrev pub LeadsTo : Next → ℕ → ℕ → Type 0
LeadsTo next q k = (n : ℕ) × (walk next n q ≡ Some k)
