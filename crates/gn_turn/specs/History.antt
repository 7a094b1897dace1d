-- Histories: lists of entries, each of which bears the number of the seat that added it.
use Rattle.std.specs.Prelude.{◌≡◌, ◌≢◌, ℕ, List, ◌++◌, ◌==◌, All}
use Rattle.std.specs.List.{filter}

-- `seen` is a prefix of `whole`, and no later entry there bears the number j
pub record SeenPrefix {E : Type 0} (number : E → ℕ) (j : ℕ) (seen whole : List E) : Type 0 where
  pub later : List E
  pub is : seen ++ later ≡ whole
  pub others : All (λ e. number e ≢ j) later

-- `after` is `before`, followed by entries that bear the number j
pub record AddsOwn {E : Type 0} (number : E → ℕ) (j : ℕ) (before after : List E) : Type 0 where
  pub added : List E
  pub is : before ++ added ≡ after
  pub own : All (λ e. number e ≡ j) added

-- the entries that bear the number j, in their order
abbrev pub entries_of : {E : Type 0} → (E → ℕ) → ℕ → List E → List E
entries_of number j history = filter (λ e. number e == j) history
