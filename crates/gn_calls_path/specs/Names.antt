-- What calls can be asked of paths and labels, by its name.
use Rattle.std.specs.Prelude.{ℕ, List, Option, Some, None, if◌then◌else◌, codes}
use Rattle.std.specs.Str.{bytes_eq}
use Rattle.gn_paths.specs.declared.parts.PathPart.TheVariants.{File, Name as NamePart, Extension, Dir}
use Rattle.gn_calls_path.specs.declared.names.PathInfo.{PathInfo}
use Rattle.gn_calls_path.specs.declared.names.PathInfo.TheVariants.{Part, OutDir as PathOutDir, GenDir as PathGenDir, AbsPath}
use Rattle.gn_calls_path.specs.declared.names.LabelInfo.{LabelInfo}
use Rattle.gn_calls_path.specs.declared.names.LabelInfo.TheVariants.{Name, Directory, TargetOutDir, RootOutDir, TargetGenDir, RootGenDir, NoToolchain, WithToolchain, Toolchain}

-- of a path
unfoldable pub path_info_of : List ℕ → Option PathInfo
path_info_of name =
    if bytes_eq name (codes "file") then Some (Part File)
    else if bytes_eq name (codes "name") then Some (Part NamePart)
    else if bytes_eq name (codes "extension") then Some (Part Extension)
    else if bytes_eq name (codes "dir") then Some (Part Dir)
    else if bytes_eq name (codes "out_dir") then Some PathOutDir
    else if bytes_eq name (codes "gen_dir") then Some PathGenDir
    else if bytes_eq name (codes "abspath") then Some AbsPath
    else None

-- of a label
unfoldable pub label_info_of : List ℕ → Option LabelInfo
label_info_of name =
    if bytes_eq name (codes "name") then Some Name
    else if bytes_eq name (codes "dir") then Some Directory
    else if bytes_eq name (codes "target_out_dir") then Some TargetOutDir
    else if bytes_eq name (codes "root_out_dir") then Some RootOutDir
    else if bytes_eq name (codes "target_gen_dir") then Some TargetGenDir
    else if bytes_eq name (codes "root_gen_dir") then Some RootGenDir
    else if bytes_eq name (codes "label_no_toolchain") then Some NoToolchain
    else if bytes_eq name (codes "label_with_toolchain") then Some WithToolchain
    else if bytes_eq name (codes "toolchain") then Some Toolchain
    else None
