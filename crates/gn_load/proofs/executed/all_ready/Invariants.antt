use Rattle.std.proofs.Common.{length}
use Rattle.gn_outside.specs.Lists.{Each}
use Rattle.gn_core.specs.Keys.{Filed}
use Rattle.gn_prepared.specs.Prepared.{ArePrepared}
use Rattle.gn_load.specs.Current.{base_now}
use Rattle.gn_load.specs.Rounds.{IsWanted, WillBeRight}
use Rattle.gn_load.specs.Executed.{IsExecutedOver}
use Rattle.gn_load.specs.declared.current.CurrentBase.{CurrentBase}
use Rattle.gn_load.proofs.executed.all_ready.Given as goal

abbrev pub invariant-files : goal.invariant-files
invariant-files l =
    (b : CurrentBase) (part filed : Filed) → IsExecutedOver b part filed → Each (IsWanted b) l.fn.found.wanted.items → ArePrepared (base_now b) part l.fn.found.wanted.items l.fn.answers.items
    → Each (IsWanted b) l.found.wanted.items × (ArePrepared (base_now b) part l.found.wanted.items l.answers.items × Each (WillBeRight b.start filed) l.all.items)

abbrev pub decreases-files : goal.decreases-files
decreases-files l = length l.found.wanted.items
