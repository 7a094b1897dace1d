use Rattle.std.proofs.Common.{◌≡◌, Option, Some, None, is_some, option_map, refl, sym, ap, ◌∙◌}
use Rattle.gn_environment.specs.Chains.{variable_in}
use Rattle.gn_layers.specs.View.{variable_state}
use Rattle.gn_layers.proofs.Tables.{variable_at}
use Rattle.gn_layers.proofs.layer.Layer.has.Goals as goal

is_some-option_map : {A B : Type 0} (f : A → B) (o : Option A) → is_some o ≡ is_some (option_map f o)
is_some-option_map f None = refl
is_some-option_map f (Some a) = refl

pub returns : goal.returns
returns c =
    c.contains_key.ensures ∙ is_some-option_map variable_state _ ∙ ap is_some (sym (variable_at c.args.name.now c.self.inside.variables.entries) ∙ ap (variable_in c.args.name.now) c.self.view_is)
