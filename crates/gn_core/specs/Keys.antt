-- Keys of all kinds, their answers, and what an evaluation of a layer is shown of them.
use Rattle.std.specs.Prelude.{ℕ, List, Option, Some, None, Bool, false, ◌&&◌, cond}
use Rattle.std.specs.Str.{bytes_eq}
use Rattle.gn_paths.specs.declared.place.Place.{Place}
use Rattle.gn_definitions.specs.Imported.{ImportState}
use Rattle.gn_runs.specs.Runs.{Question, content_of, import_of, Content, Imported, is_unusable, Answers, End, ended, wrong, spoiled, needs, Run}
use Rattle.gn_imports.specs.Rounds.{imported_of}
use Rattle.gn_items.specs.Effects.{Effects}
use Rattle.gn_labels.specs.declared.label.Label.{Label}
use Rattle.gn_closure.specs.Reach.{Unit_key, Setup, Load, Done, Units}
use Rattle.gn_closure.specs.Computed.{same_unit, same_label}

-- the imports of a toolchain before and after its build configuration is finished
pub data Layer : Type 0 where
  early : (toolchain : List ℕ) → Layer
  usual : (toolchain : List ℕ) → Layer

-- what loading finds out: what there is at a path, what an import of a layer leaves, what a unit leaves, and the record of a label
pub data Key : Type 0 where
  Read : (path : List ℕ) → Key
  Import : (layer : Layer) (path : List ℕ) → Key
  Unit_of : (unit : Unit_key) → Key
  Resolve : (label : Label) → Key

-- what an execution leaves: a value, and its items, the lines that it prints and what it asks
pub record Leaving (A : Type 0) : Type 0 where
  pub value : A
  pub effects : Effects

-- what a unit leaves: what it needs of others, and, of a build configuration, what stands beneath the files that are run behind it
pub record UnitLeft : Type 0 where
  pub needs : Done
  pub beneath : Option ImportState

-- the value alone
abbrev pub seen_end : {A : Type 0} → End (Leaving A) → End A
seen_end (ended left) = ended left.value
seen_end (wrong fault) = wrong fault
seen_end (spoiled path place) = spoiled path place
seen_end (needs question place) = needs question place

abbrev pub seen : {A : Type 0} → Run (Leaving A) → Run A
seen run = record { end = seen_end run.end; asked = run.asked }

-- the answers of keys. An import has a run that has ended, is wrong or is spoiled, or it has no value; what a record holds is left open
pub data Answer : Type 0 where
  found : Content → Answer
  import_is : Run (Leaving ImportState) → Answer
  -- the first import without value that it asks for, the place of that call, and what it asked
  no_value : (path : List ℕ) (place : Place) (asked : List Question) → Answer
  unit_is : Run (Leaving UnitLeft) → Answer
  record_is : List ℕ → Answer

-- the answers that are known
abbrev pub Filed : Type 0
Filed = Key → Option Answer

-- a unit asks the imports of its layer
abbrev pub layer_of : Unit_key → Layer
layer_of (Setup t) = early t
layer_of (Load d t) = usual t

-- the key of a question that an evaluation of a layer asks
abbrev pub key_of : Layer → Question → Key
key_of l (content_of path) = Read path
key_of l (import_of path) = Import l path

-- what an answer tells a reader, an importer, and the closure
abbrev pub content_in : Option Answer → Option Content
content_in (Some (found c)) = Some c
content_in _ = None

abbrev pub imported_in : Option Answer → Option Imported
imported_in (Some (import_is run)) = imported_of (seen_end run.end)
imported_in (Some (no_value path place asked)) = Some is_unusable
imported_in _ = None

-- what an evaluation of a layer is shown
abbrev pub shown : Filed → Layer → Answers
shown filed l = record { contents = λ path. content_in (filed (Read path)); imports = λ path. imported_in (filed (Import l path)) }

abbrev pub done_in : End (Leaving UnitLeft) → Option Done
done_in (ended left) = Some left.value.needs
done_in (wrong f) = None
done_in (spoiled path place) = None
done_in (needs q place) = None

abbrev pub unit_in : Option Answer → Option (Option Done)
unit_in (Some (unit_is run)) = Some (done_in run.end)
unit_in _ = None

-- what the closure is shown
abbrev pub units : Filed → Units
units filed k = unit_in (filed (Unit_of k))

-- two keys are one
abbrev pub same_layer : Layer → Layer → Bool
same_layer (early t) (early u) = bytes_eq t u
same_layer (early t) (usual u) = false
same_layer (usual t) (early u) = false
same_layer (usual t) (usual u) = bytes_eq t u

abbrev pub same_key : Key → Key → Bool
same_key (Read p) (Read q) = bytes_eq p q
same_key (Import l p) (Import m q) = same_layer l m && bytes_eq p q
same_key (Unit_of k) (Unit_of q) = same_unit k q
same_key (Resolve l) (Resolve m) = same_label l m
same_key (Read p) (Import m q) = false
same_key (Read p) (Unit_of q) = false
same_key (Read p) (Resolve q) = false
same_key (Import l p) (Read q) = false
same_key (Import l p) (Unit_of q) = false
same_key (Import l p) (Resolve q) = false
same_key (Unit_of k) (Read q) = false
same_key (Unit_of k) (Import m q) = false
same_key (Unit_of k) (Resolve q) = false
same_key (Resolve l) (Read q) = false
same_key (Resolve l) (Import m q) = false
same_key (Resolve l) (Unit_of q) = false

-- the same everywhere but at one key
abbrev pub put : {A : Type 0} → (Key → Option A) → Key → Option A → Key → Option A
put m k v q = cond (same_key k q) v (m q)
