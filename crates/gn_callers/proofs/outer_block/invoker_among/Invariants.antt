use Rattle.std.proofs.Common.{◌≡◌, drop}
use Rattle.gn_environment.specs.Chains.{is_one_of}
use Rattle.gn_environment.specs.Invoker.{invoker_name}
use Rattle.gn_callers.proofs.outer_block.invoker_among.Given as goal

abbrev pub invariant-loop-name : goal.invariant-loop-name
invariant-loop-name l =
    is_one_of invoker_name (drop l.name-index l.name-items) ≡ is_one_of invoker_name l.name-items
