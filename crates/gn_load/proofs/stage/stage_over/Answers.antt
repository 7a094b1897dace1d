use Rattle.gn_basics.proofs.Results.{if_ok}
use Rattle.gn_book.specs.Logs.{state_of}
use Rattle.gn_prepared.specs.Copies.{answers_of}
use Rattle.gn_load.proofs.StageLemmas.{executed_over, goes_stage}
use Rattle.gn_load.proofs.stage.stage_over.Goals as goal

pub execute_beside-answers-requires-clause-goes : goal.execute_beside-answers-requires-clause-goes
execute_beside-answers-requires-clause-goes g c = λ l lives. c.requires.goes

pub execute_beside-answers-requires-clause-waiting : goal.execute_beside-answers-requires-clause-waiting
execute_beside-answers-requires-clause-waiting g c = λ l lives. c.requires.waiting

pub execute_beside-answers-requires-clause-counted : goal.execute_beside-answers-requires-clause-counted
execute_beside-answers-requires-clause-counted g c = λ l lives. c.requires.counted

pub execute_beside-answers-requires-clause-right : goal.execute_beside-answers-requires-clause-right
execute_beside-answers-requires-clause-right g c = λ l lives. c.requires.underway.right

pub returns : goal.returns
returns g c = λ known before goes.
    let old = c.args.driver.now in
    let copies = c.args.copies.now in
    let new = c.execute_beside-answers.new.driver in
    goes_stage known before (g.S.Source.state c.execute_beside-answers.new.source) old new c.execute_beside-answers.new.units c.execute_beside-answers.new.ahead.total copies c.requires.copied c.execute_beside-answers.result.1 (c.execute_beside-answers.ensures.loaded known before goes) c.joined.result c.joined.ensures.next
    (if_ok c.joined.result (λ files right. right old.base (answers_of copies) (state_of old.book).filed (executed_over known before (g.S.Source.state c.args.source.now) old c.args.ahead.now.total copies goes (c.copies_have_no_units.ensures copies) c.requires.copied) c.requires.underway.wanted
    (rw c.deref.ensures.value at (rw c.requires.base at c.execute_beside-answers.ensures.prepared))) c.joined.ensures.ready) c.joined.ensures.err
