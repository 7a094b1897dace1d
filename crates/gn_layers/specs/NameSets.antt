-- Sets of names.
use Rattle.std.specs.Prelude.{◌≡◌, ℕ, List}
use Rattle.gn_environment.specs.Chains.{is_one_of}

-- a table has exactly these names
abbrev pub HasAll : List (List ℕ) → List (List ℕ) → Type 0
HasAll table names = (q : List ℕ) → is_one_of q table ≡ is_one_of q names
