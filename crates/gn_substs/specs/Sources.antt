-- What the substitutions of a source are.
use Rattle.std.specs.Prelude.{ℕ, Bool, true, false, List, [], if◌then◌else◌}
use Rattle.gn_paths.specs.Components.{two_slashes}
use Rattle.gn_paths.specs.Directory.{directory_of, obj_directory_of, gen_directory_of}
use Rattle.gn_paths.specs.Parts.{file_of, name_in}
use Rattle.gn_paths.specs.Rebase.{seen_from}
use Rattle.gn_substs.specs.declared.names.Substitution.{Substitution}
use Rattle.gn_substs.specs.declared.names.Substitution.TheVariants.{Source, SourceFilePart, SourceNamePart, SourceDir, SourceRootRelativeDir, SourceGenDir, SourceOutDir, SourceTargetRelative}
use Rattle.gn_substs.specs.declared.positions.Position.{Position}
use Rattle.gn_substs.specs.declared.positions.Position.TheVariants.{ForeachArgs, ToolOutputs}

-- the value of a substitution of a source, by the target's directory and the output directory of the toolchain; nothing
-- for one that isn't of a source
abbrev pub source_value : List ℕ → List ℕ → List ℕ → Substitution → List ℕ
source_value target out source Source = source
source_value target out source SourceFilePart = file_of source
source_value target out source SourceNamePart = name_in (file_of source)
source_value target out source SourceDir = directory_of source
source_value target out source SourceRootRelativeDir = seen_from two_slashes (directory_of source)
source_value target out source SourceGenDir = gen_directory_of out (directory_of source)
source_value target out source SourceOutDir = obj_directory_of out (directory_of source)
source_value target out source SourceTargetRelative = seen_from target source
source_value target out source _ = []

-- whether the value is a path
abbrev pub is_path : Substitution → Bool
is_path Source = true
is_path SourceDir = true
is_path SourceGenDir = true
is_path SourceOutDir = true
is_path _ = false

-- whether a position has paths as they are seen from the build directory, and not as `//` paths
abbrev pub shows_paths : Position → Bool
shows_paths ForeachArgs = true
shows_paths ToolOutputs = true
shows_paths _ = false

-- a path as a position has it
abbrev pub shown : Position → List ℕ → List ℕ → List ℕ
shown position build path = if shows_paths position then seen_from build path else path

-- the text of a substitution of a source at a position
abbrev pub source_text : Position → List ℕ → List ℕ → List ℕ → List ℕ → Substitution → List ℕ
source_text position target build out source s =
    if is_path s then shown position build (source_value target out source s) else source_value target out source s
