-- Rules over numbers, the facts that were found, and how they change as rules are taken in.
use Rattle.std.specs.Prelude.{◌≡◌, ℕ, ◌≤◌, List, ◌++◌, ◌⊎◌, Option, Some, None, true, false, nat_eq, take, length, slice_get}
use Rattle.std.specs.List.{IsDistinct}
use Rattle.gn_closure.specs.Closure.{Horn, In}
use Rattle.gn_closure.specs.Ground.{Step}
use Rattle.gn_graph.specs.Clauses.{has, horn}
use Rattle.gn_graph.specs.Plans.{IsUsed, HaveFired}
use Rattle.gn_graph.specs.Numbers.{IsTable, Extends, AreAt, StandsFor, StandFor, facts_of, horns_at, Known, IsMore}

-- the table of facts, the rules that wait, the facts that were found, and which rules use a fact
pub record State : Type 0 where
  pub table : List Step
  pub rules : List (Horn ℕ)
  pub found : List ℕ
  pub uses : ℕ → List ℕ

abbrev pub state : List Step → List (Horn ℕ) → List ℕ → (ℕ → List ℕ) → State
state table rules found uses = record { table = table; rules = rules; found = found; uses = uses }

abbrev pub waiting_in : State → List (Horn Step)
waiting_in a = horns_at a.table a.rules

abbrev pub found_in : State → List Step
found_in a = facts_of a.table a.found

abbrev pub known_of : State → Known
known_of a = record { waiting = waiting_in a; found = found_in a }

-- all stands together, where the facts before the place k were looked at
pub record IsSound (a : State) (k : ℕ) : Type 0 where
  pub table : IsTable a.table
  pub stands : StandFor a.table a.rules (waiting_in a)
  pub named : AreAt a.table a.found (found_in a)
  pub closed : HaveFired a.rules (take k a.found) a.found
  pub used : IsUsed a.rules (take k a.found) a.uses
  pub once : IsDistinct nat_eq a.found
  pub within : k ≤ length a.found

abbrev pub AreKept : (ℕ → List ℕ) → (ℕ → List ℕ) → Type 0
AreKept u v = (q j : ℕ) → has (u q) j ≡ true → has (v q) j ≡ true

-- nothing is lost
pub record Grown (a b : State) : Type 0 where
  pub table : Extends a.table b.table
  pub rules : IsMore a.rules b.rules
  pub found : IsMore a.found b.found
  pub uses : AreKept a.uses b.uses

-- what follows from rules and from facts that hold
pub data From (rs : List (Horn Step)) (base : List Step) : Step → Type 0 where
  known : (s : Step) → In base s → From rs base s
  by_horn : (h : Horn Step) (s : Step) → h.gives ≡ s → In rs h → ((p : Step) → In h.needs p → From rs base p) → From rs base s

-- rules were taken in: each waits, or what it gives was found; no other waits, and all that was found follows
pub record Took (a b : State) (hs : List (Horn Step)) : Type 0 where
  pub each : (h : Horn Step) → In hs h → In (waiting_in b) h ⊎ In (found_in b) h.gives
  pub part : (h : Horn Step) → In (waiting_in b) h → In (waiting_in a) h ⊎ In hs h
  pub sound : (s : Step) → In (found_in b) s → From (waiting_in a ++ hs) (found_in a) s

abbrev pub TookIn : ℕ → State → State → List (Horn Step) → Type 0
TookIn k a b hs = IsSound b k × Took a b hs

-- what a rule gives was found, or it wasn't and the rule has these numbers
abbrev pub IsNumbered : List Step → List ℕ → List ℕ → Horn Step → Option ℕ → Type 0
IsNumbered table found needs h None = (n : ℕ) × (has found n ≡ true) × (slice_get table n ≡ Some h.gives)
IsNumbered table found needs h (Some gives) = (has found gives ≡ false) × StandsFor table (horn needs gives) h
