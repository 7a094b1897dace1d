-- What stands around a scope: all that a block that runs in it leaves as it was, but for the variables, of which it marks those that it reads.
use Rattle.std.specs.Prelude.{[], map}
use Rattle.gn_environment.specs.Layers.{LayerState, ChainState, empty_layer}
use Rattle.gn_environment.specs.Environment.{Caller, Environment}

-- a layer but for its variables
abbrev pub outline : LayerState → LayerState
outline layer = record layer { variables = [] }

-- a layer but for all that stands in it
abbrev pub emptied : LayerState → LayerState
emptied layer = record (empty_layer layer.checked) { declares = layer.declares }

-- layers, but for what stands in the innermost one
abbrev pub around_inner : ChainState → ChainState
around_inner chain = record { inner = emptied chain.inner; outer = map outline chain.outer }

-- a caller but for the variables of its layers
abbrev pub caller_outline : Caller → Caller
caller_outline c = record c { chain = record { inner = outline c.chain.inner; outer = map outline c.chain.outer } }

-- an environment but for what stands in the innermost scope, the variables of the others, and the definitions that are known
unfoldable pub surroundings : Environment → Environment
surroundings env = record env { chain = around_inner env.chain; callers = map caller_outline env.callers; made = []; definitions = [] }
