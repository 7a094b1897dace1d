use Rattle.gn_out_files.proofs.OrderLemmas.{ordered}
use Rattle.gn_out_files.proofs.laws.files_stand_in_the_order_of_their_paths.Goals as goal

pub returns : goal.returns
returns c = ordered
