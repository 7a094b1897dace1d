use Rattle.gn_labels.proofs.ToolchainLemmas.{spelled_named}
use Rattle.gn_labels.proofs.laws.a_toolchain_spells_its_name.Goals as goal

pub returns : goal.returns
returns c = spelled_named c.a_path_means_itself.ensures
