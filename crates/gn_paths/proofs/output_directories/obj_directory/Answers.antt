use Rattle.gn_paths.proofs.OutputLemmas.{obj_name}
use Rattle.gn_paths.proofs.output_directories.obj_directory.Goals as goal

pub output_text-requires : goal.output_text-requires
output_text-requires c = obj_name
