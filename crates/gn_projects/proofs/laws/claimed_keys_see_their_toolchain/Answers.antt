use Rattle.gn_projects.proofs.Whole.{claimed_have_layer}
use Rattle.gn_projects.proofs.laws.claimed_keys_see_their_toolchain.Goals as goal

pub returns : goal.returns
returns c = claimed_have_layer
