-- `rebase_path`: its bases, and what is shown of a path.
use Rattle.std.specs.Prelude.{ℕ, List, [], ◌∷◌, ◌&&◌, Option, Some, None, Result, Ok, Err, if◌then◌else◌}
use Rattle.std.specs.Str.{bytes_eq}
use Rattle.gn_faults.specs.declared.code.Code.{Code}
use Rattle.gn_paths.specs.declared.error.PathFault.{PathFault}
use Rattle.gn_paths.specs.declared.error.PathFault.TheVariants.{AboveRoot, BadPath}
use Rattle.gn_paths.specs.Components.{two_slashes, is_absolute, ends_in_slash}
use Rattle.gn_paths.specs.Directory.{as_directory}
use Rattle.gn_paths.specs.Rebase.{closed, rebased}
use Rattle.gn_paths.specs.Resolve.{path_meant}
use Rattle.gn_calls_text.specs.Answers.{Settled, refuses}
use Rattle.gn_calls_path.specs.declared.place.Where.{Where}
use Rattle.gn_calls_path.specs.Found.{path_code, read_at}
use Rattle.gn_calls_path.specs.Directories.{path_at}
use Rattle.gn_calls_path.specs.Each.{OneOrList, texts_of, answer_each}

-- the directory from which a path is shown; the empty text is none, and shows the system's path
abbrev pub new_base_at : Where → List ℕ → Result (List ℕ) Code
new_base_at w text = if bytes_eq text [] then Ok [] else path_at w.directory text

-- the directory at which a text starts: its final slashes go
abbrev pub as_base : Result (List ℕ) Code → Result (List ℕ) Code
as_base (Ok path) = Ok (as_directory path)
as_base (Err code) = Err code

abbrev pub current_base_at : Where → List ℕ → Result (List ℕ) Code
current_base_at w text = as_base (path_at w.directory text)

-- a path as it is shown; the source root has the final slash of its text
abbrev pub shown : Where → List ℕ → List ℕ → List ℕ → List ℕ
shown w new_base text path = closed (rebased path new_base w.root) (bytes_eq path two_slashes && ends_in_slash text)

-- what is made of a text
abbrev pub shown_if : Where → List ℕ → List ℕ → Result (List ℕ) Code → Result (List ℕ) Code
shown_if w new_base text (Ok path) = Ok (shown w new_base text path)
shown_if w new_base text (Err code) = Err code

abbrev pub rebased_at : Where → List ℕ → List ℕ → List ℕ → Result (List ℕ) Code
rebased_at w new_base current_base text = shown_if w new_base text (path_at current_base text)

-- what keeps a text from being a path
abbrev pub fault_in : Result (List ℕ) PathFault → Option PathFault
fault_in (Ok path) = None
fault_in (Err fault) = Some fault

-- where that is so at each directory: not where a relative text leads above the root
abbrev pub anywhere : List ℕ → Option PathFault → Option PathFault
anywhere text (Some BadPath) = Some BadPath
anywhere text (Some AboveRoot) = if is_absolute text then Some AboveRoot else None
anywhere text None = None

-- what keeps a text from being a path at a directory; where that isn't known, what keeps it from being one anywhere
abbrev pub fault_from : Option (List ℕ) → List ℕ → Option PathFault
fault_from (Some directory) text = fault_in (path_meant directory text)
fault_from None text = anywhere text (fault_in (path_meant two_slashes text))

-- the first fault of some texts
abbrev pub or_later : Option PathFault → Option PathFault → Option PathFault
or_later (Some fault) later = Some fault
or_later None later = later

abbrev pub first_fault : Option (List ℕ) → List (List ℕ) → Option PathFault
first_fault directory [] = None
first_fault directory (t ∷ ts) = or_later (fault_from directory t) (first_fault directory ts)

-- the answer where the texts have no fault at the directory
abbrev pub unless_faulty : Option PathFault → Settled → Settled
unless_faulty (Some fault) answer = refuses (path_code fault) (Some 0)
unless_faulty None answer = answer

-- what is answered to both bases: faults of the texts come first, then that of `new_base`, then that of `current_base`.
-- Where `current_base` has one, only those faults of the texts come that don't depend on it
abbrev pub rebased_answer : Where → OneOrList → Result (List ℕ) Code → Result (List ℕ) Code → Settled
rebased_answer w given (Ok new_base) (Ok current_base) = answer_each (rebased_at w new_base current_base) given
rebased_answer w given (Err code) (Ok current_base) = unless_faulty (first_fault (Some current_base) (texts_of given)) (refuses code (Some 1))
rebased_answer w given new_base (Err code) =
    unless_faulty (first_fault None (texts_of given)) (read_at 1 new_base (λ base. refuses code (Some 2)))
