-- Why a text of a tool is no path, where it is none.
use Rattle.std.specs.Prelude.{ℕ, List, [], ◌∷◌, ◌&&◌, Result, Ok, Err, is_none, if◌then◌else◌}
use Rattle.std.specs.List.{flat_map}
use Rattle.gn_paths.specs.declared.error.PathFault.{PathFault}
use Rattle.gn_paths.specs.Resolve.{path_meant}
use Rattle.gn_substs.specs.declared.names.Substitution.TheVariants.{OutputDir}
use Rattle.gn_substs.specs.declared.positions.Position.{Position}
use Rattle.gn_substs.specs.declared.subst.Subst.{Subst}
use Rattle.gn_substs.specs.Expansions.{expanded}
use Rattle.gn_writing.specs.Outputs.{OutputValues, uses}
use Rattle.gn_records.specs.Output.{tool_given}

-- the fault of what a text means, where it means no path
abbrev pub fault_in : Result (List ℕ) PathFault → List PathFault
fault_in (Ok path) = []
fault_in (Err fault) = fault ∷ []

-- the fault of a text, expanded by what is given, at the build directory
abbrev pub faults_of_text : (build : List ℕ) → Position × List (List ℕ) → Subst → List PathFault
faults_of_text build given text = fault_in (path_meant build (expanded given text))

-- the same of a text in which the directory of the output may stand: where that directory is no path itself, its own text has a fault,
-- and a text that uses it isn't looked at
abbrev pub faults_where_used : OutputValues → Position × List (List ℕ) → Subst → List PathFault
faults_where_used n given text = if is_none n.output_dir && uses OutputDir text then [] else faults_of_text n.build given text

-- the faults of texts at a position of a tool, where the target gives this, and this is given for a source
unfoldable pub faults_at : Position → OutputValues → Position × List (List ℕ) → List Subst → List PathFault
faults_at position n given texts = flat_map (faults_where_used n (tool_given position n given)) texts
