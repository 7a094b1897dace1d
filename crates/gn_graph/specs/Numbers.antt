-- Facts by number: a table of facts, and rules over numbers that stand for rules over facts.
use Rattle.std.specs.Prelude.{◌≡◌, ◌↔◌, ◌⊎◌, ℕ, List, [], ◌∷◌, ◌++◌, Some, map, unwrap_or, slice_get}
use Rattle.gn_closure.specs.Closure.{Horn, In}
use Rattle.gn_closure.specs.Ground.{Step, Set_up}

-- what follows from rules over facts
pub data Derived (rs : List (Horn Step)) : Step → Type 0 where
  by_rule : (h : Horn Step) (s : Step) → h.gives ≡ s → In rs h → ((p : Step) → In h.needs p → Derived rs p) → Derived rs s

-- each number stays
abbrev pub Grows : List Step → List Step → Type 0
Grows old new = (n : ℕ) (s : Step) → slice_get old n ≡ Some s → slice_get new n ≡ Some s

-- no fact has two numbers
abbrev pub IsTable : List Step → Type 0
IsTable ss = (i j : ℕ) (s : Step) → slice_get ss i ≡ Some s → slice_get ss j ≡ Some s → i ≡ j

-- facts get numbers: each number stays, and no fact gets a second one
abbrev pub Extends : List Step → List Step → Type 0
Extends old new = Grows old new × (IsTable old → IsTable new)

-- the numbers of facts, one by one
abbrev pub AreAt : List Step → List ℕ → List Step → Type 0
AreAt ss [] [] = Unit {0}
AreAt ss [] (t ∷ ts) = ⊥
AreAt ss (n ∷ ns) [] = ⊥
AreAt ss (n ∷ ns) (t ∷ ts) = (slice_get ss n ≡ Some t) × AreAt ss ns ts

-- a rule over numbers stands for one over facts
abbrev pub StandsFor : List Step → Horn ℕ → Horn Step → Type 0
StandsFor ss r h = AreAt ss r.needs h.needs × (slice_get ss r.gives ≡ Some h.gives)

abbrev pub StandFor : List Step → List (Horn ℕ) → List (Horn Step) → Type 0
StandFor ss [] [] = Unit {0}
StandFor ss [] (h ∷ hs) = ⊥
StandFor ss (r ∷ rs) [] = ⊥
StandFor ss (r ∷ rs) (h ∷ hs) = StandsFor ss r h × StandFor ss rs hs

-- the fact of a number
abbrev pub fact_of : List Step → ℕ → Step
fact_of ss n = unwrap_or (slice_get ss n) (Set_up [])

abbrev pub facts_of : List Step → List ℕ → List Step
facts_of ss ns = map (fact_of ss) ns

-- the rule over facts that a rule over numbers stands for
abbrev pub horn_at : List Step → Horn ℕ → Horn Step
horn_at ss r = record { needs = facts_of ss r.needs; gives = fact_of ss r.gives }

abbrev pub horns_at : List Step → List (Horn ℕ) → List (Horn Step)
horns_at ss rs = map (horn_at ss) rs

-- what is kept of rules: those that wait for a fact, and what follows, in the order in which it was found
pub record Known : Type 0 where
  pub waiting : List (Horn Step)
  pub found : List Step

-- a list with more behind it
abbrev pub IsMore : {A : Type 0} → List A → List A → Type 0
IsMore {A} old new = (rest : List A) × (new ≡ old ++ rest)

-- just what follows from the rules was found, and each once; just rules wait, and of each rule that doesn't wait what it gives was found
pub record IsWhole (rules : List (Horn Step)) (k : Known) : Type 0 where
  pub whole : (s : Step) → In k.found s ↔ Derived rules s
  pub once : IsTable k.found
  pub each : (h : Horn Step) → In rules h → In k.waiting h ⊎ In k.found h.gives
  pub part : (h : Horn Step) → In k.waiting h → In rules h

-- rules were added to whatever rules there were, and what follows from them
pub record HasAdded (old new : Known) (more : List (Horn Step)) : Type 0 where
  pub found : IsMore old.found new.found
  pub whole : (rules : List (Horn Step)) → IsWhole rules old → IsWhole (rules ++ more) new
