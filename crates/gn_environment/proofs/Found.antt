-- A name that is given a value is found with it.
use Rattle.std.proofs.Common.{◌≡◌, ℕ, List, Some, ap}
use Rattle.gn_values.specs.Val.{Val}
use Rattle.gn_environment.specs.Layers.{given_variable}
use Rattle.gn_environment.specs.Chains.{nearest, variable_of, shown_or, chain_variable}
use Rattle.gn_environment.specs.Environment.{Environment, fixed_value, behind, value_of, restored, given}
use Rattle.gn_environment.proofs.Outwards.{at_name-with_name}

pub value_of-given : (name : List ℕ) (value : Val) (env : Environment) → value_of name (given name value env) ≡ Some value
unfolding value_of chain_variable given restored
value_of-given name value env =
    ap (λ o. shown_or (nearest o (variable_of name env.chain.outer)) (fixed_value name (behind env))) (at_name-with_name name (given_variable value) env.chain.inner.variables)
