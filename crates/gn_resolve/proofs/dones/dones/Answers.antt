use Rattle.std.proofs.Common.{ap, ◌∙◌}
use Rattle.gn_resolve.specs.Table.{dones_in}
use Rattle.gn_resolve.proofs.dones.dones.Goals as goal

pub returns : goal.returns
returns c = λ i. record {
  deps = c.in_ok-deps.ensures i;
  data_deps = (c.in_ok-data_deps.ensures ∙ ap (dones_in c.args.graph.now.records) c.labels-data.ensures) i;
}
