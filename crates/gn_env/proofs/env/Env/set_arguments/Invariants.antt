use Rattle.std.proofs.Common.{◌≡◌, map, drop}
use Rattle.gn_environment.specs.Declaring.{arguments_set}
use Rattle.gn_env.specs.Arguments.{argument_state}
use Rattle.gn_env.proofs.env.Env.set_arguments.Given as goal

abbrev pub invariant-loop-argument : goal.invariant-loop-argument
invariant-loop-argument l =
    (arguments_set l.fn.self.setting.context.overrides (map argument_state (drop l.argument-index l.arguments)) l.self ≡ arguments_set l.fn.self.setting.context.overrides (map argument_state l.arguments) l.fn.self) × (l.self.setting ≡ l.fn.self.setting)
