-- A path as it is shown from another directory, or from the system's root.
use Rattle.std.specs.Prelude.{ℕ, ◌≡◌, Bool, false, List, [], ◌∷◌, ◌++◌, ◌||◌, ◌&&◌, if◌then◌else◌, drop, map}
use Rattle.std.specs.Str.{bytes_eq}
use Rattle.gn_paths.specs.Components.{slash, two_slashes, dot, two_dots, pieces, trail, components, is_source, is_absolute, ends_in_slash, without_final_slash}
use Rattle.gn_paths.specs.Directory.{as_directory}

-- the components that lead from a directory to a path: those with which both begin fall away, a `..`
-- stands for each further one of the directory, and then come the further ones of the path
abbrev pub relative : List (List ℕ) → List (List ℕ) → List (List ℕ)
relative [] path = path
relative (d ∷ ds) [] = map (λ _. two_dots) (d ∷ ds)
relative (d ∷ ds) (c ∷ cs) =
    if bytes_eq d c then relative ds cs else map (λ _. two_dots) (d ∷ ds) ++ c ∷ cs

-- `.` stands instead of nothing
abbrev pub or_dot : List ℕ → List ℕ
or_dot c = if bytes_eq c [] then dot else c

-- components with a slash between two; `.` stands instead of nothing, also instead of a first component
-- that is empty, so that no slash comes first
abbrev pub joined : List (List ℕ) → List ℕ
joined [] = dot
joined (c ∷ cs) = or_dot c ++ trail cs

-- the components of a text in which each stands behind a slash
abbrev pub parts : List ℕ → List (List ℕ)
parts text = drop 1 (pieces text)

-- a text that is its components, each behind a slash
abbrev pub IsTrail : List ℕ → Type 0
IsTrail text = trail (parts text) ≡ text

-- what follows a first component with a slash before each: it has a `.` where that component is empty
abbrev pub dotted : List ℕ → List ℕ
dotted down = if bytes_eq down [] || is_absolute down then 46 ∷ down else down

-- whether a path's final slash is kept: the source root shows none
abbrev pub keeps_slash : List ℕ → Bool
keeps_slash path = if bytes_eq path two_slashes then false else ends_in_slash path

-- a text with a final slash where `final` says so
abbrev pub closed : List ℕ → Bool → List ℕ
closed text final = text ++ (if final then slash else [])

-- the text with a slash before it, unless it has one or is empty
abbrev pub rooted : List ℕ → List ℕ
rooted text = if bytes_eq text [] || is_absolute text then text else 47 ∷ text

-- the components of the source root's own system path, as they stand
unfoldable pub root_components : List ℕ → List (List ℕ)
root_components root = drop 1 (pieces (rooted (without_final_slash root)))

-- the components of a path as a system path: a path of the source tree stands below the source root
abbrev pub system_components : List ℕ → List ℕ → List (List ℕ)
system_components root path =
    if is_source path then root_components root ++ components path else components path

-- the system's path: a system path stays, and a path of the source tree stands below the source root
abbrev pub system_path : List ℕ → List ℕ → List ℕ
system_path root path =
    if is_source path then root ++ closed (trail (components path)) (keeps_slash path) else path

-- what leads from a directory to a path: over the components of the source tree where both stand in it,
-- and else over those of the system's paths
abbrev pub shown_from : List ℕ → List ℕ → List ℕ → List ℕ
shown_from path base root =
    if is_source path && is_source base then closed (joined (relative (components base) (components path))) (keeps_slash path)
    else closed (joined (relative (system_components root base) (system_components root path))) (keeps_slash path)

-- a path as it is shown from `new_base`: the system's path where that is empty, and else what leads there
-- from it as a directory, so without its final slashes
unfoldable pub rebased : List ℕ → List ℕ → List ℕ → List ℕ
rebased path new_base root =
    if bytes_eq new_base [] then system_path root path else shown_from path (as_directory new_base) root

-- a path as it is seen from a directory: a system path stays, and a path of the source tree is what leads
-- there over the components of both
unfoldable pub seen_from : List ℕ → List ℕ → List ℕ
seen_from directory path =
    if is_source path then closed (joined (relative (components directory) (components path))) (keeps_slash path) else path
