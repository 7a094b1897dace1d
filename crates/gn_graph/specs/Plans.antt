-- What rules add to facts that hold.
use Rattle.std.specs.Prelude.{◌≡◌, ℕ, List, [], ◌∷◌, ◌++◌, Option, Some, true, false, slice_get, map, take, length, ◌≤◌, nat_eq}
use Rattle.std.specs.List.{IsDistinct}
use Rattle.gn_closure.specs.Closure.{Horn}
use Rattle.gn_graph.specs.Clauses.{has, Follows}

abbrev pub AllIn : List ℕ → List ℕ → Type 0
AllIn found needs = (p : ℕ) → has needs p ≡ true → has found p ≡ true

-- the uses name each rule under each fact that it needs and that doesn't hold; they may name others
abbrev pub IsUsed : List (Horn ℕ) → List ℕ → (ℕ → List ℕ) → Type 0
IsUsed rs found u = (i : ℕ) (r : Horn ℕ) (p : ℕ) → slice_get rs i ≡ Some r → has r.needs p ≡ true → has found p ≡ false → has (u p) i ≡ true

-- each rule all of whose needs hold has given its fact
abbrev pub HaveFired : List (Horn ℕ) → List ℕ → List ℕ → Type 0
HaveFired rs before after = (i : ℕ) (r : Horn ℕ) → slice_get rs i ≡ Some r → AllIn before r.needs → has after r.gives ≡ true

-- one rule looked at: nothing new, or what it gives
pub data Fired (o : Option (Horn ℕ)) (old new : List ℕ) : Type 0 where
  same : new ≡ old → ((r : Horn ℕ) → o ≡ Some r → AllIn old r.needs → has old r.gives ≡ true) → Fired o old new
  more : (r : Horn ℕ) → o ≡ Some r → AllIn old r.needs → new ≡ old ++ r.gives ∷ [] → Fired o old new

-- some rules looked at, those whose numbers are seen
pub record FiredAll (rs : List (Horn ℕ)) (seen : ℕ → Type 0) (old new : List ℕ) : Type 0 where
  pub rest : List ℕ
  pub grows : new ≡ old ++ rest
  pub sound : (f : ℕ) → has new f ≡ true → Follows rs old f
  pub listed : (f : ℕ) → has rest f ≡ true → has (map (λ r. r.gives) rs) f ≡ true
  pub done : (i : ℕ) (r : Horn ℕ) → seen i → slice_get rs i ≡ Some r → AllIn old r.needs → has new r.gives ≡ true

-- the facts that the rules add to the first ones, looked at up to the place k
pub record Plan (rs : List (Horn ℕ)) (first new : List ℕ) (k : ℕ) : Type 0 where
  pub rest : List ℕ
  pub grows : new ≡ first ++ rest
  pub sound : (f : ℕ) → has new f ≡ true → Follows rs first f
  pub closed : HaveFired rs (take k new) new
  pub within : k ≤ length new
  pub listed : (f : ℕ) → has rest f ≡ true → has (map (λ r. r.gives) rs) f ≡ true

-- all of them: with these, what holds is closed
pub record IsPlan (rs : List (Horn ℕ)) (first new : List ℕ) : Type 0 where
  pub rest : List ℕ
  pub grows : new ≡ first ++ rest
  pub sound : (f : ℕ) → has new f ≡ true → Follows rs first f
  pub closed : HaveFired rs new new
  pub once : IsDistinct nat_eq new
