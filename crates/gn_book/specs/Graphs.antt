-- The graph of a book: it is over the answers of units that are filed, and the units that it reaches have numbers.
use Rattle.std.specs.Prelude.{◌≡◌, ◌⊎◌, ℕ, ◌<◌, ◌≤◌, ◌+◌, List, [], ◌∷◌, ◌++◌, length, Option, Some, None, slice_get, ◌↔◌, Bool, true, false}
use Rattle.gn_closure.specs.Reach.{Unit_key, Done, Is_reached, Is_wanted, Is_generated, Holds}
use Rattle.gn_closure.specs.Ground.{Step, Holding, Asked, Used, Defined, Set_up}
use Rattle.gn_closure.specs.Computed.{is_reached}
use Rattle.gn_graph.specs.declared.unit_key.UnitKey.{UnitKey}
use Rattle.gn_graph.specs.Facts.{unit_of}
use Rattle.gn_graph.specs.Needs.{home, done_of}
use Rattle.gn_graph.specs.Numbers.{IsMore}
use Rattle.gn_graph.specs.Graphs.{Answers}
use Rattle.gn_graph.specs.Replies.{Reply, reply, units_in}
use Rattle.gn_core.specs.Keys.{Key, Read, Import, Unit_of, Resolve, Answer, Filed, units, unit_in}
use Rattle.gn_book.specs.declared.answer.Mentions.{Mentions}
use Rattle.gn_book.specs.declared.answer.Mentions.TheVariants.{NoUnit, Nothing, Needs}
use Rattle.gn_book.specs.Logs.{Log, state_of}
use Rattle.gn_book.specs.Rosters.{Table, with_number}
use Rattle.gn_book.specs.NextLaws.{HasNumber}

-- what an answer says of what loading needs, as the closure is shown it
abbrev pub mentioned : Mentions → Option (Option Done)
mentioned NoUnit = None
mentioned Nothing = Some None
mentioned (Needs needs) = Some (Some (done_of needs))

-- the keys of units: they get their numbers once they are reached
abbrev pub is_unit : Key → Bool
is_unit (Read path) = false
is_unit (Import layer path) = false
is_unit (Unit_of unit) = true
is_unit (Resolve label) = false

-- the unit of a key
abbrev pub IsUnitOf : Key → Option UnitKey → Type 0
IsUnitOf k None = is_unit k ≡ false
IsUnitOf k (Some unit) = k ≡ Unit_of (unit_of unit)

-- one more answer of a unit, if it is one
abbrev pub with_told : List Reply → Unit_key → Option (Option Done) → List Reply
with_told replies unit None = replies
with_told replies unit (Some done) = replies ++ reply unit done ∷ []

abbrev pub with_answer : List Reply → Key → Answer → List Reply
with_answer replies (Unit_of unit) answer = with_told replies unit (unit_in (Some answer))
with_answer replies (Read path) answer = replies
with_answer replies (Import layer path) answer = replies
with_answer replies (Resolve label) answer = replies

-- a key has no answer in the graph
abbrev pub IsNew : List Reply → Key → Type 0
IsNew replies (Unit_of unit) = units_in replies unit ≡ None
IsNew replies (Read path) = Unit {0}
IsNew replies (Import layer path) = Unit {0}
IsNew replies (Resolve label) = Unit {0}

-- the answers of units are those that are filed
abbrev pub IsGraphOf : List Reply → Filed → Type 0
IsGraphOf replies filed = (k : Unit_key) → units_in replies k ≡ units filed k

-- the units that have numbers are those that are reached over what is filed
abbrev pub UnitsHaveNumbers : Log → Type 0
UnitsHaveNumbers l = (k : Unit_key) → HasNumber l (Unit_of k) ↔ Holds home (units (state_of l).filed) (Is_reached k)

-- the same book, with more keys
pub record HasMoreKeys (old new : Log) : Type 0 where
  pub seats : new.seats ≡ old.seats
  pub keys : IsMore old.keys new.keys
  pub events : new.events ≡ old.events

-- only units have got numbers
abbrev pub OnlyUnitsAreNew : Log → Log → Type 0
OnlyUnitsAreNew old new = (i : ℕ) (k : Key) → slice_get new.keys i ≡ Some k → (slice_get old.keys i ≡ Some k) ⊎ (is_unit k ≡ true)

-- the keys after a fact was looked at: a unit that is reached gets a number
abbrev pub with_fact : Table → Step → Table
with_fact t (Holding (Is_reached unit)) = with_number t (Unit_of unit)
with_fact t (Holding (Is_wanted dir toolchain)) = t
with_fact t (Holding (Is_generated label)) = t
with_fact t (Asked label) = t
with_fact t (Used toolchain) = t
with_fact t (Defined toolchain) = t
with_fact t (Set_up toolchain) = t

-- from a place on, facts were looked at up to another place, and that left these keys
pub data Looked (found : List Step) (from : ℕ) (old : Table) : ℕ → Table → Type 0 where
  none : {n : ℕ} {t : Table} → n ≡ from → t ≡ old → Looked found from old n t
  more : (n : ℕ) (t : Table) (s : Step) {m : ℕ} {u : Table} → Looked found from old n t → slice_get found n ≡ Some s → m ≡ n + 1 → u ≡ with_fact t s → Looked found from old m u

-- units that have numbers are reached, and so many facts were looked at: the units that they reach have numbers
pub record AreNumbered (keys : List Key) (g : Answers) (seen : ℕ) : Type 0 where
  pub within : seen ≤ length g.found
  pub sound : (k : Unit_key) (i : ℕ) → slice_get keys i ≡ Some (Unit_of k) → Holds home (units_in g.replies) (Is_reached k)
  pub taken : (n : ℕ) (k : Unit_key) → n < seen → slice_get g.found n ≡ Some (is_reached k) → (i : ℕ) × (slice_get keys i ≡ Some (Unit_of k))

-- a book and its graph
abbrev pub IsGraphed : Log → Answers → ℕ → Type 0
IsGraphed l g seen = IsGraphOf g.replies (state_of l).filed × AreNumbered l.keys g seen
