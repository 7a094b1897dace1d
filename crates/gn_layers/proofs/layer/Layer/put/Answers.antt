use Rattle.gn_layers.proofs.Tables.{with_variable}
use Rattle.gn_layers.proofs.layer.Layer.put.Goals as goal

pub returns-clause-ok : goal.returns-clause-ok
returns-clause-ok c =
    rw (← c.self.view_is, c.in_ok-insert.ensures.entries, with_variable c.args.name c.self.inside.variables.entries c.args.variable)
