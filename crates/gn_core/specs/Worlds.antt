-- What the keys mean over one tree: each layer is a project of imports.
use Rattle.std.specs.Prelude.{ℕ, zero, suc, List, Some, None}
use Rattle.gn_definitions.specs.Imported.{ImportState}
use Rattle.gn_runs.specs.Runs.{Question, content_of, import_of, Content, Answers, End, ended, wrong, spoiled, needs, Run, IsTree}
use Rattle.gn_imports.specs.Rounds.{Project, knowing, values, final}
use Rattle.gn_imports.specs.Projects.{IsProject}
use Rattle.gn_labels.specs.declared.label.Label.{Label}
use Rattle.gn_closure.specs.Reach.{Unit_key}
use Rattle.gn_core.specs.Keys.{Layer, Key, Read, Import, Unit_of, Resolve, Answer, found, import_is, no_value, unit_is, record_is, Filed, layer_of, Leaving, UnitLeft, seen}

-- A tree, and evaluations over it. The second argument of an evaluation is the base: of it the evaluation sees units and records that were finished
-- before it
pub record World : Type 0 where
  pub content : List ℕ → Content
  pub paths : List (List ℕ)
  pub import_run : Layer → Filed → List ℕ → Answers → Run (Leaving ImportState)
  pub unit_run : Unit_key → Filed → Answers → Run (Leaving UnitLeft)
  pub record_of : Label → Filed → List ℕ
  -- the directory of the file that defines a toolchain
  pub home : List ℕ → List ℕ
  pub stage : Key → ℕ

-- one layer over a base
abbrev pub project : World → Filed → Layer → Project
project w base l = record { content = w.content; paths = w.paths; execute = λ path answers. seen (w.import_run l base path answers) }

-- the execution of an import over the last round
unfoldable pub last_run : World → Filed → Layer → List ℕ → Run (Leaving ImportState)
last_run w base l path = w.import_run l base path (knowing (project w base l) (values (project w base l)))

-- what an import is whose run over the last round is this
abbrev pub import_as : End (Leaving ImportState) → List Question → Answer
import_as (ended x) asked = import_is (record { end = ended x; asked = asked })
import_as (wrong f) asked = import_is (record { end = wrong f; asked = asked })
import_as (spoiled path place) asked = import_is (record { end = spoiled path place; asked = asked })
import_as (needs (import_of path) place) asked = no_value path place asked
import_as (needs (content_of path) place) asked = no_value path place asked

abbrev pub import_answer : Run (Leaving ImportState) → Answer
import_answer run = import_as run.end run.asked

-- the meaning of a key over a base
abbrev pub meaning : World → Filed → Key → Answer
meaning w base (Read path) = found (w.content path)
meaning w base (Import l path) = import_answer (last_run w base l path)
meaning w base (Unit_of k) = unit_is (w.unit_run k base (final (project w base (layer_of k))))
meaning w base (Resolve l) = record_is (w.record_of l base)

-- the meanings of all keys, stage by stage, and of one key over the meanings of what stands below its stage
abbrev pub below : World → ℕ → Filed
below w zero q = None
below w (suc n) q = Some (meaning w (below w n) q)

abbrev pub true_meaning : World → Key → Answer
true_meaning w k = meaning w (below w (w.stage k)) k

abbrev pub all_meanings : World → Filed
all_meanings w k = Some (true_meaning w k)

-- the laws of a world over any base
pub record IsWorld (w : World) : Type 0 where
  pub projects : (base : Filed) (l : Layer) → IsProject (project w base l)
  pub imports : (base : Filed) (l : Layer) (path : List ℕ) → IsTree (w.import_run l base path)
  pub trees : (base : Filed) (k : Unit_key) → IsTree (w.unit_run k base)
