use Rattle.std.proofs.Common.{arith}
use Rattle.gn_top.proofs.AnswerLemmas.{none_within, count_within}
use Rattle.gn_top.proofs.RunLemmas.{ends_as, ends_with_usage, cut_at_once, cut_answer, cut_failure, one_failed}
use Rattle.gn_top.proofs.one.run_one.Goals as goal

pub returns-in-Ok-clause-cut_short : goal.returns-in-Ok-clause-cut_short
returns-in-Ok-clause-cut_short g c = λ tree told stopped.
    cut_answer _ _ _ _ _ _ _ (c.in-Ok.ensures.meaning tree told).text (c.in-Ok.ensures.meaning tree told).files
    (rw c.deref.ensures.value at (c.tell_under-status.ensures.part stopped))

pub returns-in-Ok-clause-meaning : goal.returns-in-Ok-clause-meaning
returns-in-Ok-clause-meaning g c = λ tree told few.
    let says = c.in-Ok.ensures.meaning tree told in
    let whole = c.tell_under-status.ensures.whole (omega (arith, few)) in
    ends_as _ _ _ _ _ _ _ says.text says.files says.status whole.0 (rw c.deref.ensures.value at whole.1)

pub returns-in-Ok-clause-no_form : goal.returns-in-Ok-clause-no_form
returns-in-Ok-clause-no_form g c = λ none.
    let usage = c.in-Ok.ensures.no_form none in
    ends_with_usage _ _ _ _ _ _ usage.0 usage.1 (rw c.deref.ensures.value at c.tell_under-status.ensures)

pub returns-in-Err-CannotRead-clause-cannot_read : goal.returns-in-Err-CannotRead-clause-cannot_read
returns-in-Err-CannotRead-clause-cannot_read g c = λ three.
    let whole = c.say_failure.ensures.whole (omega arith) in
    one_failed _ _ _ _ _ (rw c.in-Err-CannotRead.field-0-is at c.in-Err-CannotRead.ensures.faults) whole.1 (rw c.in-Err-CannotRead.field-0-is at c.in-Err-CannotRead.ensures.failure)

pub returns-in-Err-CannotRead-clause-cut_short : goal.returns-in-Err-CannotRead-clause-cut_short
returns-in-Err-CannotRead-clause-cut_short g c = λ tree told stopped.
    cut_failure _ _ _ _ _ _ (rw c.in-Err-CannotRead.field-0-is at c.in-Err-CannotRead.ensures.faults) (c.say_failure.ensures.part stopped) (rw c.in-Err-CannotRead.field-0-is at c.in-Err-CannotRead.ensures.failure)

pub returns-in-Err-Memory-clause-cut_short : goal.returns-in-Err-Memory-clause-cut_short
returns-in-Err-Memory-clause-cut_short g c = λ tree told stopped. cut_at_once _ _ _ _

pub returns-in-Ok-clause-units : goal.returns-in-Ok-clause-units
returns-in-Ok-clause-units g c = λ tree told. let says = c.in-Ok.ensures.meaning tree told in record { whole = λ few. says.units; bound = count_within _ _ says.units }

pub returns-in-Err-CannotRead-clause-units : goal.returns-in-Err-CannotRead-clause-units
returns-in-Err-CannotRead-clause-units g c = λ tree told. record {
  whole = λ few. let three = (c.say_failure.ensures.whole (omega (arith, few))).0 in absurd (omega (arith, few, three));
  bound = none_within _;
}

pub returns-in-Err-Memory-clause-units : goal.returns-in-Err-Memory-clause-units
returns-in-Err-Memory-clause-units g c = λ tree told. record { whole = λ few. absurd (omega (arith, few)); bound = none_within _ }
