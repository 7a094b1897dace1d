-- Arguments that a block declares, and names that a call brings into it, as the code has them.
use Rattle.std.specs.Prelude.{ℕ, List}
use Rattle.gn_tree.specs.declared.position.Position.{Position}
use Rattle.gn_values.specs.View.{val_of}
use Rattle.gn_environment.specs.Declaring.{ArgumentState}
use Rattle.gn_env.specs.declared.bringing.Brought.{Brought}
use Rattle.gn_env.specs.declared.declaring.Argument.{Argument}

abbrev pub argument_state : Argument → ArgumentState
argument_state a = record { name = a.name; position = a.position; default = val_of a.default }

abbrev pub brought_state : Brought → List ℕ × Position
brought_state b = (b.name, b.position)
