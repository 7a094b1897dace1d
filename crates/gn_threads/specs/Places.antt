-- What is said of the items of a list by their places.
use Rattle.std.specs.Prelude.{ℕ, suc, ⊤, List, [], ◌∷◌}

-- each item is right for its place, where the first stands at this one
abbrev pub AllFrom : {X : Type 0} → (ℕ → X → Type 0) → ℕ → List X → Type 0
AllFrom Is n [] = ⊤
AllFrom Is n (x ∷ xs) = Is n x × AllFrom Is (suc n) xs
