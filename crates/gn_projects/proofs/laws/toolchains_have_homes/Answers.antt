use Rattle.std.proofs.Common.{ap}
use Rattle.gn_labels.specs.Reading.{named}
use Rattle.gn_graph.specs.Needs.{home, dir_of}
use Rattle.gn_projects.proofs.laws.toolchains_have_homes.Goals as goal

pub returns : goal.returns
unfolding home
returns c item good = ap dir_of (c.a_toolchain_spells_its_name.ensures (named item.label.dir item.label.name) good)
