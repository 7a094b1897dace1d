use Rattle.std.proofs.Common.{Option, sym, subst}
use Rattle.gn_faults.specs.declared.fault.Fault.{Fault}
use Rattle.gn_judging.specs.Judging.{IsFirst}
use Rattle.gn_judging.proofs.JudgingLemmas.{first_stays}
use Rattle.gn_judging.proofs.judging.first_of.Goals as goal

pub returns-in-None : goal.returns-in-None
returns-in-None c = subst (λ (f : Option Fault). IsFirst c.args.first f c.args.first) (sym c.in-None.is) (first_stays c.args.first)
