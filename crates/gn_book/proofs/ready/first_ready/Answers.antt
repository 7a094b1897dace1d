use Rattle.std.proofs.Common.{IsSome, refl, sym, subst}
use Rattle.std.specs.BTreeMap.{get}
use Rattle.gn_book.specs.contracts.task.TaskOrd.TheImpl.{cmp-value}
use Rattle.gn_book.proofs.Tasks.{none_at, first_of}
use Rattle.gn_book.proofs.ready.first_ready.Goals as goal

pub returns-in-None : goal.returns-in-None
returns-in-None c = none_at cmp-value.it c.args.ready.now (λ l. absurd (cc (subst IsSome c.in-None.is (c.first_key_value.ensures.variant.1 l))))

pub returns-in-Some : goal.returns-in-Some
returns-in-Some c =
    first_of (get cmp-value.it c.args.ready.now) c.in-Some.first.0.now c.in-Some.first.1.now c.in-Some.ensures.value (λ u m e. c.in-Some.ensures.least u (subst IsSome (sym e) refl))
