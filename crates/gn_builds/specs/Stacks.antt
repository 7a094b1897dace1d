-- Loading by one seat: the keys that it has claimed wait for one another, the last one first.
use Rattle.std.specs.Prelude.{◌≡◌, ℕ, List, [], ◌∷◌, Some, None, true, false}
use Rattle.gn_paths.specs.declared.place.Place.{Place}
use Rattle.gn_closure.specs.Closure.{In}
use Rattle.gn_core.specs.Keys.{Key, Read, Import, Unit_of, Resolve}
use Rattle.gn_core.specs.Machine.{State, Blocked, IsFiled}
use Rattle.gn_book.specs.Graphs.{is_unit}

-- what an evaluation can ask for, and what can wait
abbrev pub IsAskable : Key → Type 0
IsAskable (Read path) = Unit {0}
IsAskable (Import layer path) = Unit {0}
IsAskable (Unit_of unit) = ⊥
IsAskable (Resolve label) = ⊥

abbrev pub MayWait : Key → Type 0
MayWait (Read path) = ⊥
MayWait (Import layer path) = Unit {0}
MayWait (Unit_of unit) = Unit {0}
MayWait (Resolve label) = ⊥

-- a key waits for another, which closes no cycle
abbrev pub IsBlockedOn : State → Key → Key → Type 0
IsBlockedOn s j k = (place : Place) × (s.blocks j ≡ Some (record { on = k; place = place; closes = false }))

-- each key but the first waits for the one before it, no key stands twice, and the last one is a unit
abbrev pub Chained : State → List Key → Type 0
Chained s [] = Unit {0}
Chained s (k ∷ []) = is_unit k ≡ true
Chained s (k ∷ j ∷ js) = (is_unit k ≡ false) × (In (j ∷ js) k → ⊥) × IsBlockedOn s j k × Chained s (j ∷ js)

abbrev pub rest_of : List Key → List Key
rest_of [] = []
rest_of (k ∷ ks) = ks

-- the seat has claimed just these keys, none of which has an answer, and no key waits but for one of them or for one that is filed
pub record IsStacked (s : State) (ks : List Key) : Type 0 where
  pub going : s.stops ≡ []
  pub held : (k : Key) → In ks k → s.claims k ≡ Some 0
  pub unfiled : (k : Key) → In ks k → s.filed k ≡ None
  pub alone : (k : Key) (seat : ℕ) → s.claims k ≡ Some seat → (seat ≡ 0) × In ks k
  pub chained : Chained s ks
  pub waiting : (k : Key) → In (rest_of ks) k → MayWait k
  pub waits : (k : Key) (b : Blocked) → s.blocks k ≡ Some b → In ks k × IsAskable b.on

-- the first one waits for nothing that isn't filed
abbrev pub TopIsReady : State → List Key → Type 0
TopIsReady s [] = Unit {0}
TopIsReady s (k ∷ ks) = (b : Blocked) → s.blocks k ≡ Some b → IsFiled s.filed b.on
