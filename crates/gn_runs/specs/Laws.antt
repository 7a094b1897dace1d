-- The laws of a run over known answers.
use Rattle.std.specs.Prelude.{◌≡◌, ℕ, List, [], ◌∷◌, Some, None, ◌⊎◌}
use Rattle.gn_paths.specs.declared.place.Place.{Place}
use Rattle.gn_runs.specs.Runs.{Question, content_of, import_of, Content, Imported, is_unusable, Answers, End, ended, wrong, spoiled, needs, Run}

-- what the first answers have, the second have
pub record Below (a b : Answers) : Type 0 where
  pub contents : (path : List ℕ) (y : Content) → a.contents path ≡ Some y → b.contents path ≡ Some y
  pub imports : (path : List ℕ) (y : Imported) → a.imports path ≡ Some y → b.imports path ≡ Some y

-- the answer to a question isn't known
abbrev pub IsUnknown : Answers → Question → Type 0
IsUnknown a (content_of path) = a.contents path ≡ None
IsUnknown a (import_of path) = a.imports path ≡ None

-- the same is known of the answer to a question
abbrev pub Agree : Answers → Answers → Question → Type 0
Agree a b (content_of path) = b.contents path ≡ a.contents path
Agree a b (import_of path) = b.imports path ≡ a.imports path

-- a run that no answer is wanting for
abbrev pub IsSettled : {A : Type 0} → End A → Type 0
IsSettled (ended x) = Unit {0}
IsSettled (wrong fault) = Unit {0}
IsSettled (spoiled path place) = Unit {0}
IsSettled (needs question place) = ⊥

-- whether a question is one of these
abbrev pub IsAsked : List Question → Question → Type 0
IsAsked [] q = ⊥
IsAsked (r ∷ rs) q = (q ≡ r) ⊎ IsAsked rs q

module _ {A : Type 0} (meaning : Answers → Run A) where
  -- a settled run is the same over larger answers
  abbrev pub StaysSettled : Type 0
  StaysSettled = (a b : Answers) → Below a b → IsSettled (meaning a).end → meaning b ≡ meaning a

  -- a run that needs an answer is the same over larger answers that lack it
  abbrev pub StaysInNeed : Type 0
  StaysInNeed = (a b : Answers) (q : Question) (p : Place) → Below a b → (meaning a).end ≡ needs q p → IsUnknown b q → meaning b ≡ meaning a

  -- what is asked is asked over larger answers too
  abbrev pub AsksMore : Type 0
  AsksMore = (a b : Answers) (q : Question) → Below a b → IsAsked (meaning a).asked q → IsAsked (meaning b).asked q

  -- an answer that is needed isn't known, and its question was asked
  abbrev pub NeedsUnknown : Type 0
  NeedsUnknown = (a : Answers) (q : Question) (p : Place) → (meaning a).end ≡ needs q p → IsUnknown a q × IsAsked (meaning a).asked q

  -- a question that was asked and has no known answer is the one that is needed
  abbrev pub AsksKnown : Type 0
  AsksKnown = (a : Answers) (q : Question) → IsAsked (meaning a).asked q → IsUnknown a q → (p : Place) × ((meaning a).end ≡ needs q p)

  -- what spoils a run is an import that can't be used, and it was asked for
  abbrev pub SpoiledByUnusable : Type 0
  SpoiledByUnusable = (a : Answers) (path : List ℕ) (p : Place) → (meaning a).end ≡ spoiled path p → (a.imports path ≡ Some is_unusable) × IsAsked (meaning a).asked (import_of path)

  -- an import that can't be used spoils the run that asks for it
  abbrev pub UnusableSpoils : Type 0
  UnusableSpoils = (a : Answers) (path : List ℕ) → IsAsked (meaning a).asked (import_of path) → a.imports path ≡ Some is_unusable → (p : Place) × ((meaning a).end ≡ spoiled path p)

  -- where answers agree on what a run asked, the runs are the same
  abbrev pub DependsOnAsked : Type 0
  DependsOnAsked = (a b : Answers) → ((q : Question) → IsAsked (meaning a).asked q → Agree a b q) → meaning b ≡ meaning a
