use Rattle.gn_paths.proofs.OutputLemmas.{gen_name}
use Rattle.gn_paths.proofs.output_directories.gen_directory.Goals as goal

pub output_text-requires : goal.output_text-requires
output_text-requires c = gen_name
