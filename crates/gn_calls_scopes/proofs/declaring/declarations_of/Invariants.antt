use Rattle.std.proofs.Common.{◌≡◌, ◌++◌, map}
use Rattle.std.specs.Vec.Iter.{into_iter_items}
use Rattle.gn_env.specs.Arguments.{argument_state}
use Rattle.gn_meaning.specs.Declaring.{declaration_of}
use Rattle.gn_calls_scopes.proofs.declaring.declarations_of.Given as goal

abbrev pub invariant-loop-argument : goal.invariant-loop-argument
invariant-loop-argument l =
    (goal.iterator-loop-argument).can_next l.argument-iterator × (goal.iterator-loop-argument).is_finite l.argument-iterator × (l.declarations.items ++ map (declaration_of l.env.setting) (map argument_state (into_iter_items l.argument-iterator)) ≡ map (declaration_of l.env.setting) (map argument_state l.fn.arguments.items))
