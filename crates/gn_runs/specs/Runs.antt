-- Runs over known answers: how an evaluation ends, and what it asks on its way.
use Rattle.std.specs.Prelude.{◌≡◌, ℕ, List, [], ◌∷◌, ◌++◌, Option, Some, None}
use Rattle.gn_paths.specs.declared.place.Place.{Place}
use Rattle.gn_definitions.specs.Imported.{ImportState}
use Rattle.gn_faults.specs.declared.fault.Fault.{Fault}

-- what an evaluation may ask: the content of the file at a path, and what an import of it leaves
pub data Question : Type 0 where
  content_of : (path : List ℕ) → Question
  import_of : (path : List ℕ) → Question

-- what there is at a path: the bytes of a file, nothing, or a file above the limit
pub data Content : Type 0 where
  has_bytes : (bytes : List ℕ) → Content
  is_absent : Content
  is_too_big : Content

-- what an import leaves, or that it can't be used: its file is wrong, or it has no value
pub data Imported : Type 0 where
  has_value : (value : ImportState) → Imported
  is_unusable : Imported

-- the answers that are known
pub record Answers : Type 0 where
  pub contents : List ℕ → Option Content
  pub imports : List ℕ → Option Imported

-- how an evaluation ends: with what it leaves; with its first fault; at an import that can't be used; or at a question whose answer isn't known.
-- The last two have the place of the call that asked.
pub data End (A : Type 0) : Type 0 where
  ended : (left : A) → End A
  wrong : (fault : Fault) → End A
  spoiled : (path : List ℕ) (place : Place) → End A
  needs : (question : Question) (place : Place) → End A

-- an end, and the questions asked, in order
pub record Run (A : Type 0) : Type 0 where
  pub end : End A
  pub asked : List Question

-- one evaluation behind another
abbrev pub after : {A B : Type 0} → End A → List Question → (A → Run B) → Run B
after (ended x) asked next = record { end = (next x).end; asked = asked ++ (next x).asked }
after (wrong fault) asked next = record { end = wrong fault; asked = asked }
after (spoiled path place) asked next = record { end = spoiled path place; asked = asked }
after (needs question place) asked next = record { end = needs question place; asked = asked }

abbrev pub followed : {A B : Type 0} → Run A → (A → Run B) → Run B
followed run next = after run.end run.asked next

-- nothing is asked
abbrev pub leaves : {A : Type 0} → A → Run A
leaves x = record { end = ended x; asked = [] }

abbrev pub fails : {A : Type 0} → Fault → Run A
fails fault = record { end = wrong fault; asked = [] }

-- asking for the content of a file
abbrev pub asking_content : {A : Type 0} → Option Content → List ℕ → Place → (Content → Run A) → Run A
asking_content None path place next = record { end = needs (content_of path) place; asked = content_of path ∷ [] }
asking_content (Some content) path place next = record { end = (next content).end; asked = content_of path ∷ (next content).asked }

-- asking for what an import leaves: one that can't be used spoils the evaluation, here and nowhere else
abbrev pub asking_import : {A : Type 0} → Option Imported → List ℕ → Place → (ImportState → Run A) → Run A
asking_import None path place next = record { end = needs (import_of path) place; asked = import_of path ∷ [] }
asking_import (Some is_unusable) path place next = record { end = spoiled path place; asked = import_of path ∷ [] }
asking_import (Some (has_value value)) path place next = record { end = (next value).end; asked = import_of path ∷ (next value).asked }

-- a tree of questions, whose branches are the answers
pub data Tree (A : Type 0) : Type 0 where
  leaf : A → Tree A
  fault_leaf : Fault → Tree A
  asks_content : List ℕ → Place → (Content → Tree A) → Tree A
  asks_import : List ℕ → Place → (ImportState → Tree A) → Tree A

abbrev pub run_tree : {A : Type 0} → Tree A → Answers → Run A
run_tree (leaf x) answers = leaves x
run_tree (fault_leaf fault) answers = fails fault
run_tree (asks_content path place next) answers = asking_content (answers.contents path) path place (λ (y : Content). run_tree (next y) answers)
run_tree (asks_import path place next) answers = asking_import (answers.imports path) path place (λ (y : ImportState). run_tree (next y) answers)

-- a function of the answers that does what a tree of questions does
abbrev pub IsTree : {A : Type 0} → (Answers → Run A) → Type 0
IsTree {A} meaning = (t : Tree A) × ((answers : Answers) → meaning answers ≡ run_tree t answers)
