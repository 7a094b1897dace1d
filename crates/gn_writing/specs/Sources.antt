-- What becomes of the sources of a compiled target.
use Rattle.std.specs.Prelude.{ℕ, Bool, List, ◌||◌, codes, if◌then◌else◌}
use Rattle.std.specs.Str.{bytes_eq}
use Rattle.gn_paths.specs.Parts.{file_of, extension_in}
use Rattle.gn_rows.specs.declared.kinds.ToolName.TheVariants.{Cc, Cxx, Asm}
use Rattle.gn_writing.specs.declared.sources.SourceUse.{SourceUse}
use Rattle.gn_writing.specs.declared.sources.SourceUse.TheVariants.{Built, Object, NotBuilt}

-- the extensions of C++ files
abbrev pub is_cxx : List ℕ → Bool
is_cxx extension = bytes_eq extension (codes "cc") || (bytes_eq extension (codes "cpp") || bytes_eq extension (codes "cxx"))

-- the extensions of assembler files
abbrev pub is_asm : List ℕ → Bool
is_asm extension = bytes_eq extension (codes "s") || (bytes_eq extension (codes "S") || bytes_eq extension (codes "asm"))

-- what becomes of a source of this extension: headers and all others aren't built
abbrev pub use_of_extension : List ℕ → SourceUse
use_of_extension extension =
    if bytes_eq extension (codes "c") then Built Cc
    else (if is_cxx extension then Built Cxx
    else (if is_asm extension then Built Asm
    else (if bytes_eq extension (codes "o") then Object else NotBuilt)))

-- what becomes of a source, by the extension of its file
abbrev pub use_of : List ℕ → SourceUse
use_of source = use_of_extension (extension_in (file_of source))
