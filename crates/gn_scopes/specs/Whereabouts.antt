-- Where a name is found among layers.
use Rattle.std.specs.Prelude.{◌≡◌, ℕ, List, IsSome, None}
use Rattle.gn_environment.specs.Layers.{ChainState}
use Rattle.gn_environment.specs.Chains.{variable_in, variable_of, IsFirstAt}
use Rattle.gn_scopes.specs.declared.scopes.Whereabouts.{Whereabouts}
use Rattle.gn_scopes.specs.declared.scopes.Whereabouts.TheVariants.{Inner, Outer, Nowhere}

abbrev pub IsFound : List ℕ → ChainState → Whereabouts → Type 0
IsFound name chain Inner = IsSome (variable_in name chain.inner)
IsFound name chain (Outer i) = (variable_in name chain.inner ≡ None) × IsFirstAt name chain.outer i
IsFound name chain Nowhere = (variable_in name chain.inner ≡ None) × (variable_of name chain.outer ≡ None)
