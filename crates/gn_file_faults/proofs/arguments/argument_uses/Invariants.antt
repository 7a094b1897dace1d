use Rattle.std.proofs.Common.{◌≡◌, ◌++◌, drop, map}
use Rattle.gn_file_faults.specs.Uses.{meant}
use Rattle.gn_file_faults.specs.Arguments.{argument_use}
use Rattle.gn_file_faults.proofs.arguments.argument_uses.Given as goal

abbrev pub invariant-loop-declaration : goal.invariant-loop-declaration
invariant-loop-declaration l =
    map meant l.uses.items ++ map (argument_use l.toolchain) (map (λ d. d.now) (drop l.declaration-index l.declarations))
    ≡ map (argument_use l.toolchain) (map (λ d. d.now) l.declarations)
