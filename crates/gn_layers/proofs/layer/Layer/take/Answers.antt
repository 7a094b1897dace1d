use Rattle.std.proofs.Common.{sym, ◌∙◌, ap, option_map}
use Rattle.gn_layers.specs.View.{variable_state}
use Rattle.gn_environment.specs.Chains.{variable_in}
use Rattle.gn_layers.proofs.Tables.{variable_at, without_variable}
use Rattle.gn_layers.proofs.layer.Layer.take.Goals as goal

pub returns-clause-value : goal.returns-clause-value
returns-clause-value c =
    ap (option_map variable_state) c.remove.ensures.value ∙ sym (variable_at c.args.name.now c.self.inside.variables.entries) ∙ ap (variable_in c.args.name.now) c.self.view_is

pub returns-clause-new : goal.returns-clause-new
returns-clause-new c =
    rw (← c.self.view_is, c.remove.ensures.entries, without_variable c.args.name.now c.self.inside.variables.entries)
