-- What a text means as a path at a current directory.
use Rattle.std.specs.Prelude.{ℕ, Bool, List, [], ◌∷◌, ◌++◌, Option, None, Some, Result, Ok, Err, ◌||◌, not, if◌then◌else◌, length, take, option_and_then, option_map}
use Rattle.std.specs.Option.{ok_or}
use Rattle.std.specs.Str.{bytes_eq}
use Rattle.gn_paths.specs.declared.error.PathFault.{PathFault}
use Rattle.gn_paths.specs.declared.error.PathFault.TheVariants as faults
use Rattle.gn_paths.specs.declared.error.PathError.{PathError}
use Rattle.gn_paths.specs.declared.error.PathError.TheVariants.{AboveRoot, BadPath}
use Rattle.gn_paths.specs.Components.{two_slashes, dot, two_dots, pieces, components, spelled, top_of, is_source, is_system, ends_in_slash}
use Rattle.gn_paths.specs.Normal.{is_path_text}

-- the pieces that lead nowhere: the empty one and `.`
abbrev pub stays_there : List ℕ → Bool
stays_there piece = bytes_eq piece [] || bytes_eq piece dot

-- the pieces that lead anywhere
abbrev pub moves : List ℕ → Bool
moves piece = not (stays_there piece)

-- the components without the last one; nothing stands above the root
abbrev pub without_last : List (List ℕ) → Option (List (List ℕ))
without_last [] = None
without_last (c ∷ cs) = Some (take (length cs) (c ∷ cs))

-- the components after one piece of a text: the empty piece and `.` change nothing, `..` takes the last
-- component away, and every other piece is a new last one
abbrev pub stepped : List (List ℕ) → List ℕ → Option (List (List ℕ))
stepped cs piece =
    if stays_there piece then Some cs else (if bytes_eq piece two_dots then without_last cs else Some (cs ++ piece ∷ []))

-- the components after all pieces of a text, or None where one of them leads above the root
abbrev pub walked : List (List ℕ) → List (List ℕ) → Option (List (List ℕ))
walked cs [] = Some cs
walked cs (piece ∷ more) = option_and_then (λ ds. walked ds more) (stepped cs piece)

-- where a text starts: at the source root where it begins with two slashes, else at the current directory
abbrev pub start_of : List ℕ → List ℕ → List ℕ
start_of current text = if is_source text then two_slashes else current

-- the path to which a text leads from a directory; the text's final slash is kept
unfoldable pub led : List ℕ → List ℕ → Option (List ℕ)
led start text =
    option_map (λ cs. spelled (top_of start) cs (ends_in_slash text)) (walked (components start) (pieces text))

-- the path that a text means at a current directory, or what keeps it from naming one. A text that may name no
-- path is `BadPath`, a system path stays as it stands, and a path that leads above the root is `AboveRoot`
unfoldable pub path_meant : List ℕ → List ℕ → Result (List ℕ) PathFault
path_meant current text =
    if is_path_text text then (if is_system text then Ok text else ok_or (led (start_of current text) text) faults.AboveRoot) else Err faults.BadPath

-- the same as code answers it, whose error may also be want of memory; a meaning's never is
abbrev pub path_error : PathFault → PathError
path_error faults.AboveRoot = AboveRoot
path_error faults.BadPath = BadPath

abbrev pub path_answered : Result (List ℕ) PathFault → Result (List ℕ) PathError
path_answered (Ok path) = Ok path
path_answered (Err fault) = Err (path_error fault)

unfoldable pub resolved : List ℕ → List ℕ → Result (List ℕ) PathError
resolved current text = path_answered (path_meant current text)
