-- Labels as keys of ordered sets and maps.
use Rattle.std.specs.Prelude.{ℕ, List, Option, Some, None, if◌then◌else◌}
use Rattle.std.specs.Str.{bytes_eq}
use Rattle.gn_labels.specs.declared.label.Label.{Label}
use Rattle.gn_labels.specs.declared.key.LabelKey.{LabelKey}

-- a toolchain, unless it is the default one
abbrev pub other_than : List ℕ → List ℕ → Option (List ℕ)
other_than default toolchain = if bytes_eq toolchain default then None else Some toolchain

-- the key of a label where this toolchain is the default one
abbrev pub key_of : List ℕ → Label → LabelKey
key_of default label = record { dir = label.dir; name = label.name; toolchain = other_than default label.toolchain }
