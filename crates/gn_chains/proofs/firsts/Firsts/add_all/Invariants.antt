use Rattle.std.proofs.Common.{◌≡◌, drop}
use Rattle.gn_dependencies.specs.Lists.{added}
use Rattle.gn_chains.proofs.firsts.Firsts.add_all.Given as goal

abbrev pub invariant-loop-label : goal.invariant-loop-label
invariant-loop-label l = added l.initial.self l.labels ≡ added l.self (drop l.label-index l.labels)
