-- What contracts see of a library.
use Rattle.std.specs.Prelude.{◌≡◌, ◌⊎◌, ◌≤◌, ℕ, List, length, Option, Some, None}
use Rattle.gn_value_model.specs.Limits.{max_bytes}
use Rattle.gn_paths.specs.declared.place.Place.{Place}
use Rattle.gn_runs.specs.Runs.{Question, content_of, import_of, Content, has_bytes, is_absent, is_too_big, has_value, is_unusable, Answers}
use Rattle.gn_runs.specs.Laws.{Below}
use Rattle.gn_eval.specs.declared.library.Imported.{Imported as Told}
use Rattle.gn_eval.specs.declared.library.Imported.TheVariants.{Value, Absent, Spoiled}
use Rattle.gn_eval.specs.declared.library.Found.{Found}
use Rattle.gn_eval.specs.declared.library.Found.TheVariants.{Bytes, Absent as NoFile, TooBig}

-- a question whose answer is needed, and the place of the call that asks it
pub record Need : Type 0 where
  pub question : Question
  pub place : Place

-- the answers that a library tells, if it does, what it noted last, its count of stops, and the ghost names of the references behind which it stands,
-- the outermost first: none where it stands by itself
pub record LibraryState : Type 0 where
  pub told : Option Answers
  pub need : Need
  pub stops : ℕ
  pub references : List ℕ

-- what is told is among these answers; of a library that tells nothing nothing is claimed
abbrev pub Includes : Option Answers → Answers → Type 0
Includes None a = ⊥
Includes (Some told) a = Below told a

-- the same library later: it tells the same, and stands behind the same references
pub record GoesOn (before after : LibraryState) : Type 0 where
  pub told : after.told ≡ before.told
  pub later : before.stops ≤ after.stops
  pub references : after.references ≡ before.references

-- there is a file at the path, as far as is known
abbrev pub IsThere : Option Content → Type 0
IsThere None = ⊥
IsThere (Some (has_bytes bytes)) = Unit {0}
IsThere (Some is_absent) = ⊥
IsThere (Some is_too_big) = Unit {0}

-- what a library answers to an import is what these answers have
abbrev pub ImportAnswers : List ℕ → Answers → Told → Type 0
ImportAnswers path a (Value value) = IsThere (a.contents path) × (a.imports path ≡ Some (has_value value))
ImportAnswers path a Absent = a.contents path ≡ Some is_absent
ImportAnswers path a Spoiled = IsThere (a.contents path) × (a.imports path ≡ Some is_unusable)

-- what these answers lack for an import of the path: the content, or what the file leaves
abbrev pub ImportLacks : List ℕ → Place → Answers → Need → Type 0
ImportLacks path place a need =
    ((a.contents path ≡ None) × (need ≡ record { question = content_of path; place = place }))
    ⊎ (IsThere (a.contents path) × (a.imports path ≡ None) × (need ≡ record { question = import_of path; place = place }))

-- the content that a library has told
abbrev pub content_told : Found → Content
content_told (Bytes bytes) = has_bytes bytes
content_told NoFile = is_absent
content_told TooBig = is_too_big

-- what a library answers to a content is what these answers have
abbrev pub ContentAnswers : List ℕ → Answers → Found → Type 0
ContentAnswers path a (Bytes bytes) = a.contents path ≡ Some (has_bytes bytes)
ContentAnswers path a NoFile = a.contents path ≡ Some is_absent
ContentAnswers path a TooBig = a.contents path ≡ Some is_too_big

abbrev pub ContentLacks : List ℕ → Place → Answers → Need → Type 0
ContentLacks path place a need = (a.contents path ≡ None) × (need ≡ record { question = content_of path; place = place })

-- no more bytes than a file may have
abbrev pub IsWithinLimit : Found → Type 0
IsWithinLimit (Bytes bytes) = length bytes ≤ max_bytes
IsWithinLimit NoFile = Unit {0}
IsWithinLimit TooBig = Unit {0}
