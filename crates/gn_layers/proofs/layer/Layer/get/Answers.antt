use Rattle.std.proofs.Common.{sym, ◌∙◌, ap, option_map}
use Rattle.gn_layers.specs.View.{variable_state}
use Rattle.gn_environment.specs.Chains.{variable_in}
use Rattle.gn_basics.proofs.Results.{shown}
use Rattle.gn_layers.proofs.Tables.{variable_at}
use Rattle.gn_layers.proofs.layer.Layer.get.Goals as goal

pub returns : goal.returns
returns c =
    shown variable_state c.get.result ∙ ap (option_map variable_state) c.get.ensures.value ∙ sym (variable_at c.args.name.now c.self.inside.variables.entries) ∙ ap (variable_in c.args.name.now) c.self.view_is
