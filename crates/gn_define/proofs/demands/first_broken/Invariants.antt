use Rattle.std.proofs.Common.{◌≡◌, drop}
use Rattle.gn_define.specs.Demands.{first_broken}
use Rattle.gn_define.proofs.demands.first_broken.Given as goal

abbrev pub invariant-loop-demand : goal.invariant-loop-demand
invariant-loop-demand l = first_broken l.fields (drop l.demand-index l.demands) ≡ first_broken l.fields l.demands
