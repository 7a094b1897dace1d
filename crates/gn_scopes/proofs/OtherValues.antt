-- Whether a layer has a name with another value.
use Rattle.std.proofs.Common.{◌≡◌, ℕ, Bool, false, not, List, Option, Some, None, option_map, refl, ap, ◌∙◌}
use Rattle.gn_values.specs.Val.{Val}
use Rattle.gn_values.specs.Equal.{equals}
use Rattle.gn_environment.specs.Layers.{LayerState}
use Rattle.gn_environment.specs.Chains.{variable_in}
use Rattle.gn_environment.specs.Imports.{other_value}

-- whether there is another value than this one
abbrev other_than : Val → Option Val → Bool
other_than w None = false
other_than w (Some v) = not (equals v w)

-- a variable with another value, by the value that the scope has
pub other_by_value : (layer : LayerState) (name : List ℕ) (w : Val) (o : Option Val) → o ≡ option_map (λ v. v.value) (variable_in name layer) → other_than w o ≡ other_value layer (name, w)
other_by_value layer name w o is =
    ap (other_than w) is ∙ elim (variable_in name layer) as (λ x. variable_in name layer ≡ x → other_than w (option_map (λ v. v.value) x) ≡ other_value layer (name, w)) [ None ↦ λ h. rw h | Some v ↦ λ h. rw h ] refl
