-- Where the execution of a file begins, and what a library tells of its content.
use Rattle.std.proofs.Common.{◌≡◌, ℕ, List, Some, refl}
use Rattle.gn_faults.specs.declared.file_kind.FileKind.TheVariants.{BuildFile, Import}
use Rattle.gn_items.specs.declared.key.When.{When}
use Rattle.gn_runs.specs.Runs.{Answers}
use Rattle.gn_environment.specs.Environment.{new_environment}
use Rattle.gn_eval.specs.Library.{ContentAnswers}
use Rattle.gn_eval.specs.declared.library.Found.{Found}
use Rattle.gn_eval.specs.declared.library.Found.TheVariants.{Bytes, Absent, TooBig}
use Rattle.gn_unit.specs.Found.{content_view}
use Rattle.gn_executions.specs.Units.{import_begins, load_begins}
use Rattle.gn_executions.specs.Base.{BaseState, setting_of}

-- what is found at a path is the content that the answers have
pub content_found : (path : List ℕ) (a : Answers) (found : Found) → ContentAnswers path a found → a.contents path ≡ Some (content_view found)
content_found path a (Bytes bytes) h = h
content_found path a Absent h = h
content_found path a TooBig h = h

-- where the execution of a file begins
pub import_set : (base : BaseState) (when : When) (toolchain path : List ℕ) → (import_begins base when toolchain path).setting ≡ setting_of base Import path
unfolding new_environment
import_set base when toolchain path = refl

pub load_set : (base : BaseState) (directory toolchain path : List ℕ) → (load_begins base directory toolchain path).setting ≡ setting_of base BuildFile path
unfolding new_environment
load_set base directory toolchain path = refl
