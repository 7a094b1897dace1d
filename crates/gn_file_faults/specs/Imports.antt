-- Files that are both loaded and imported.
use Rattle.std.specs.Prelude.{ℕ, Bool, List, [], ◌∷◌, Some, map}
use Rattle.std.specs.Borrow.{Bor}
use Rattle.std.specs.List.{filter, list_any}
use Rattle.std.specs.Str.{bytes_eq}
use Rattle.indexmap.specs.IndexSet.{IndexSet, contains_by}
use Rattle.gn_faults.specs.declared.code.Code.TheVariants.{ImportedBuildFile}
use Rattle.gn_faults.specs.declared.fault.Fault.{Fault}
use Rattle.gn_faults.specs.declared.stage.Stage.TheVariants.{Graph}
use Rattle.gn_file_faults.specs.Uses.{is_name}

-- whether a path is one of these
abbrev pub is_among : List (List ℕ) → List ℕ → Bool
is_among paths path = list_any (λ p. bytes_eq p path) paths

-- the fault stands at the beginning of the file
abbrev pub import_fault : List ℕ → Fault
import_fault path =
    record { stage = Graph; place = Some (record { file = path; line = 1; column = 1 }); toolchain = []; code = ImportedBuildFile; detail = path ∷ [] }

-- a fault for each imported file that is loaded too
abbrev pub import_faults : List (List ℕ) → List (List ℕ) → List Fault
import_faults loaded imported = map import_fault (filter (is_among loaded) imported)

-- whether a set of references has a path
abbrev pub has : {S : Type 0} → IndexSet (Bor (List ℕ)) S → List ℕ → Bool
has paths path = contains_by (is_name path) paths
