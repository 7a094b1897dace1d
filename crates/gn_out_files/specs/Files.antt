-- Files that are put, in the order of their paths.
use Rattle.std.specs.Prelude.{ℕ, Bool, List, [], ◌∷◌, Option, Result, Ok, Err, map, take, if◌then◌else◌}
use Rattle.std.specs.Ordering.{nat_cmp, is_gt}
use Rattle.std.specs.Cmp.Lexicographic.{slice_cmp}
use Rattle.gn_outside.specs.Calls.{CountsWriteFault}
use Rattle.gn_outside.specs.declared.stops.SinkStop.{SinkStop}
use Rattle.gn_outside.specs.Lists.{Extends}
use Rattle.gn_outside.specs.States.{PutFile, Put, SinkEvent, SinkState}
use Rattle.gn_out_files.specs.declared.out_file.OutFile.{OutFile}

abbrev pub put_of : OutFile → PutFile
put_of file = (file.path, file.bytes)

-- Order

-- whether a file stands behind another: its path is greater in the order of bytes
abbrev pub stands_behind : PutFile → PutFile → Bool
stands_behind file other = is_gt (slice_cmp nat_cmp file.0 other.0)

-- a file among others that are in the order of their paths, in front of those of its path
abbrev pub with_file : PutFile → List PutFile → List PutFile
with_file file [] = file ∷ []
with_file file (f ∷ fs) = if stands_behind file f then f ∷ with_file file fs else file ∷ f ∷ fs

-- the same of several, of which those of one path stay in their order
abbrev pub with_files : List PutFile → List PutFile → List PutFile
with_files [] others = others
with_files (f ∷ fs) others = with_file f (with_files fs others)

-- files in the order of their paths, and those of one path in their order
unfoldable pub in_path_order : List PutFile → List PutFile
in_path_order files = with_files files []

-- Putting

-- each file was put, whole, in their order; the first of them, where one couldn't be put
abbrev pub PutsFiles : Option (List SinkEvent) → Option (List SinkEvent) → List PutFile → Result (Unit {0}) SinkStop → Type 0
PutsFiles before after files (Ok _) = Extends before after (map Put files)
PutsFiles before after files (Err _) = (n : ℕ) × Extends before after (map Put (take n files))

-- files were put, and nothing was said
pub record PutsAll (before after : SinkState) (files : List PutFile) (result : Result (Unit {0}) SinkStop) : Type 0 where
  pub events : PutsFiles before.events after.events files result
  pub faults : CountsWriteFault before.faults after.faults result
