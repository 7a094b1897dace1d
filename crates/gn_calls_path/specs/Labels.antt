-- What calls tell of labels.
use Rattle.std.specs.Prelude.{ℕ, Bool, List, [], ◌∷◌, ◌++◌, Result}
use Rattle.std.specs.List.{list_any}
use Rattle.gn_faults.specs.declared.code.Code.{Code}
use Rattle.gn_labels.specs.declared.label.Label.{Label}
use Rattle.gn_labels.specs.declared.pattern.Pattern.{Pattern}
use Rattle.gn_labels.specs.Labels.{spelling}
use Rattle.gn_labels.specs.Reading.{label_read}
use Rattle.gn_labels.specs.Patterns.{pattern_read, matches}
use Rattle.gn_paths.specs.Components.{two_slashes}
use Rattle.gn_paths.specs.Directory.{obj_directory_of, gen_directory_of}
use Rattle.gn_calls_path.specs.declared.names.LabelInfo.{LabelInfo}
use Rattle.gn_calls_path.specs.declared.names.LabelInfo.TheVariants.{Name, Directory, TargetOutDir, RootOutDir, TargetGenDir, RootGenDir, NoToolchain, WithToolchain, Toolchain}
use Rattle.gn_calls_path.specs.declared.place.Where.{Where}
use Rattle.gn_calls_path.specs.Found.{label_code, pattern_code, coded}
use Rattle.gn_calls_path.specs.Directories.{root_out_of}

-- the label and the pattern that a text means where a call stands
abbrev pub label_at : Where → List ℕ → Result Label Code
label_at w text = coded label_code (label_read w.directory w.toolchain text)

abbrev pub pattern_at : Where → List ℕ → Result Pattern Code
pattern_at w text = coded pattern_code (pattern_read w.directory text)

-- a label with its toolchain, which the default one has too
abbrev pub with_toolchain : Label → List ℕ
with_toolchain label = spelling label.dir label.name ++ 40 ∷ (label.toolchain ++ 41 ∷ [])

-- what is asked of a label. Its output directories are those of its own toolchain
abbrev pub label_info : Where → LabelInfo → Label → List ℕ
label_info w Name label = label.name
label_info w Directory label = label.dir
label_info w TargetOutDir label = obj_directory_of (root_out_of w label.toolchain) label.dir
label_info w RootOutDir label = root_out_of w label.toolchain
label_info w TargetGenDir label = gen_directory_of (root_out_of w label.toolchain) label.dir
label_info w RootGenDir label = gen_directory_of (root_out_of w label.toolchain) two_slashes
label_info w NoToolchain label = spelling label.dir label.name
label_info w WithToolchain label = with_toolchain label
label_info w Toolchain label = label.toolchain

-- whether one of the patterns matches a label
abbrev pub some_matches : Label → List Pattern → Bool
some_matches label patterns = list_any (λ p. matches p label) patterns
