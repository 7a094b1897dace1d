use Rattle.gn_out_files.proofs.OrderLemmas.{one_path}
use Rattle.gn_out_files.proofs.laws.files_of_one_path_keep_their_order.Goals as goal

pub returns : goal.returns
returns c = one_path
