-- A toolchain's text as a name in a directory.
use Rattle.std.specs.Prelude.{ℕ, List, Option, Some, None, Result, Ok, Err, if◌then◌else◌}
use Rattle.std.specs.List.{list_any, before_last, after_last}
use Rattle.gn_paths.specs.declared.error.PathFault.{PathFault}
use Rattle.gn_paths.specs.Components.{two_slashes}
use Rattle.gn_paths.specs.Resolve.{path_meant}
use Rattle.gn_labels.specs.declared.named.Named.{Named}
use Rattle.gn_labels.specs.Reading.{is_colon, named}

-- a name in a directory that was found
abbrev pub named_at : List ℕ → Result (List ℕ) PathFault → Option Named
named_at name (Ok dir) = Some (named dir name)
named_at name (Err fault) = None

-- the name and the directory that a toolchain's text spells: it is cut at its last colon, since a directory may hold
-- one and a name doesn't
unfoldable pub toolchain_named : List ℕ → Option Named
toolchain_named text =
    if list_any is_colon text then named_at (after_last is_colon text) (path_meant two_slashes (before_last is_colon text)) else None
