-- The parts of a path's text.
use Rattle.std.specs.Prelude.{ℕ, Bool, List, [], ◌∷◌, ◌==◌, if◌then◌else◌}
use Rattle.std.specs.List.{list_any, before_last, after_last}
use Rattle.std.specs.Str.{bytes_eq}
use Rattle.gn_paths.specs.declared.parts.PathPart.{PathPart}
use Rattle.gn_paths.specs.declared.parts.PathPart.TheVariants.{File, Name, Extension, Dir}
use Rattle.gn_paths.specs.Components.{is_slash, slash, dot}

-- the byte `.`
abbrev pub is_dot : ℕ → Bool
is_dot b = b == 46

-- the part after the last slash
abbrev pub file_of : List ℕ → List ℕ
file_of text = after_last is_slash text

-- a file without its extension: what stands before its last dot, and all of it where it has none
abbrev pub name_in : List ℕ → List ℕ
name_in file = if list_any is_dot file then before_last is_dot file else file

-- a file's extension: what stands after its last dot, and nothing where it has none
abbrev pub extension_in : List ℕ → List ℕ
extension_in file = if list_any is_dot file then after_last is_dot file else []

-- the directory of the part before the last slash, which is the system's root where it is empty, and
-- the source root where it is one slash
abbrev pub shown_dir : List ℕ → List ℕ
shown_dir front =
    if bytes_eq front [] then 47 ∷ 46 ∷ [] else (if bytes_eq front slash then 47 ∷ 47 ∷ 46 ∷ [] else front)

-- the part before the last slash, `/.` and `//.` for the roots, and `.` where there is no slash
abbrev pub dir_of : List ℕ → List ℕ
dir_of text = if list_any is_slash text then shown_dir (before_last is_slash text) else dot

-- the part of a text that is asked for
abbrev pub part_of : PathPart → List ℕ → List ℕ
part_of File text = file_of text
part_of Name text = name_in (file_of text)
part_of Extension text = extension_in (file_of text)
part_of Dir text = dir_of text
