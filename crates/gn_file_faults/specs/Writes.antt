-- Files that are written twice, or that a target makes.
use Rattle.std.specs.Prelude.{ℕ, ◌+◌, Bool, List, [], ◌∷◌, ◌++◌, if◌then◌else◌, map}
use Rattle.std.specs.Borrow.{Bor}
use Rattle.std.specs.List.{list_any}
use Rattle.std.specs.Str.{bytes_eq}
use Rattle.gn_paths.specs.Rebase.{seen_from}
use Rattle.gn_faults.specs.declared.code.Code.TheVariants.{SameOutput}
use Rattle.gn_faults.specs.declared.fault.Fault.{Fault}
use Rattle.gn_items.specs.declared.written.Written.{Written}
use Rattle.gn_file_faults.specs.declared.facts.FilesWritten.{FilesWritten}
use Rattle.gn_file_faults.specs.Uses.{Use, again_faults}

-- the files that an execution under a toolchain writes, in order; the toolchain is the empty text for the default one
pub record Execution : Type 0 where
  pub toolchain : List ℕ
  pub files : List Written

abbrev pub execution_of : FilesWritten → Execution
execution_of e = record { toolchain = e.toolchain.now; files = e.files.now }

-- whether a call writes the path
abbrev pub writes : List ℕ → Written → Bool
writes path w = bytes_eq w.path path

-- the calls of an execution that count, the last one first: a call doesn't count whose path a later one writes
abbrev pub counted : List Written → List Written
counted [] = []
counted (w ∷ ws) = counted ws ++ (if list_any (writes w.path) ws then [] else w ∷ [])

-- whether targets make the path; what they make is told as it is seen from the build directory
abbrev pub is_made : List (List ℕ) → List ℕ → List ℕ → Bool
is_made made build path = list_any (bytes_eq (seen_from build path)) made

-- A call uses the path that it writes, which is taken where a target makes it.
abbrev pub write_use : List (List ℕ) → List ℕ → List ℕ → ℕ → Written → Use
write_use made build toolchain number w = record { name = w.path; toolchain = toolchain; place = w.place; number = number; is_taken = is_made made build w.path }

-- the calls that count of executions in order, each with the number of its execution, from a number on
abbrev pub writes_from : List (List ℕ) → List ℕ → ℕ → List Execution → List Use
writes_from made build n [] = []
writes_from made build n (e ∷ es) = map (write_use made build e.toolchain n) (counted e.files) ++ writes_from made build (n + 1) es

abbrev pub write_faults : List (List ℕ) → List ℕ → List Execution → List Fault
write_faults made build executions = again_faults SameOutput (writes_from made build 0 executions)
