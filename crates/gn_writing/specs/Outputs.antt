-- What a tool makes, by the texts of its outputs.
use Rattle.std.specs.Prelude.{ℕ, Bool, ◌&&◌, List, [], ◌∷◌, Option, None, Some, Result, Ok, Err, is_none, option_map, if◌then◌else◌}
use Rattle.std.specs.List.{list_any, flat_map}
use Rattle.std.specs.Str.{bytes_eq}
use Rattle.gn_paths.specs.declared.error.PathFault.{PathFault}
use Rattle.gn_paths.specs.Resolve.{path_meant}
use Rattle.gn_paths.specs.Rebase.{seen_from}
use Rattle.gn_substs.specs.declared.names.Substitution.{Substitution}
use Rattle.gn_substs.specs.declared.names.Substitution.TheVariants.{TargetOutputName, OutputDir, OutputExtension, RootOutDir, RootGenDir, TargetOutDir, TargetGenDir, LabelName}
use Rattle.gn_substs.specs.declared.positions.Position.{Position}
use Rattle.gn_substs.specs.declared.subst.Subst.{Subst}
use Rattle.gn_substs.specs.Names.{substitution_name}
use Rattle.gn_substs.specs.Expansions.{text_in, expanded}
use Rattle.gn_substs.specs.Sources.{shown}
use Rattle.gn_writing.specs.declared.outputs.OutputNames.{OutputNames}

-- whether a substitution stands in a text
abbrev pub uses : Substitution → Subst → Bool
uses s text = list_any (λ p. bytes_eq (substitution_name p.substitution) (substitution_name s)) text.pieces

-- what a target gives to the texts of its tools' outputs; a directory of outputs where the text that stands for it means one
pub record OutputValues : Type 0 where
  pub build : List ℕ
  pub output_name : List ℕ
  pub output_extension : List ℕ
  pub label_name : List ℕ
  pub output_dir : Option (List ℕ)
  pub root_out_dir : List ℕ
  pub root_gen_dir : List ℕ
  pub target_out_dir : List ℕ
  pub target_gen_dir : List ℕ

-- the same, where it is lent
abbrev pub values_of : OutputNames → OutputValues
values_of n = record {
  build = n.build.now;
  output_name = n.output_name.now;
  output_extension = n.output_extension.now;
  label_name = n.label_name.now;
  output_dir = option_map (λ p. p.now) n.output_dir;
  root_out_dir = n.root_out_dir.now;
  root_gen_dir = n.root_gen_dir.now;
  target_out_dir = n.target_out_dir.now;
  target_gen_dir = n.target_gen_dir.now;
}

-- a path as a position has it, and nothing where there is none
abbrev pub shown_where : Position → List ℕ → Option (List ℕ) → List ℕ
shown_where position build None = []
shown_where position build (Some path) = shown position build path

-- what stands for a substitution: what the target gives, and to all others what is given for the source
abbrev pub name_text : Position → OutputValues → Position × List (List ℕ) → Substitution → List ℕ
name_text position n given TargetOutputName = n.output_name
name_text position n given OutputExtension = n.output_extension
name_text position n given LabelName = n.label_name
name_text position n given OutputDir = shown_where position n.build n.output_dir
name_text position n given RootOutDir = shown position n.build n.root_out_dir
name_text position n given RootGenDir = shown position n.build n.root_gen_dir
name_text position n given TargetOutDir = shown position n.build n.target_out_dir
name_text position n given TargetGenDir = shown position n.build n.target_gen_dir
name_text position n given s = text_in given s

-- a path as seen from the build directory, and nothing where there is none
abbrev pub seen_where : List ℕ → Result (List ℕ) PathFault → List (List ℕ)
seen_where build (Ok path) = seen_from build path ∷ []
seen_where build (Err fault) = []

-- the path that a text means, as seen from the build directory, where it means one
abbrev pub paths_meant : List ℕ → List ℕ → List (List ℕ)
paths_meant build text = seen_where build (path_meant build text)

-- what a tool makes by one text: nothing where the text uses a directory of outputs that is no path
abbrev pub output_paths : OutputValues → Position × List (List ℕ) → Subst → List (List ℕ)
output_paths n given text =
    if is_none n.output_dir && uses OutputDir text then [] else paths_meant n.build (expanded given text)

-- what a tool makes by all its texts, in their order
abbrev pub tool_outputs : OutputValues → Position × List (List ℕ) → List Subst → List (List ℕ)
tool_outputs n given texts = flat_map (output_paths n given) texts
