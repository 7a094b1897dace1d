use Rattle.std.proofs.Common.{Some, refl, subst}
use Rattle.std.specs.BTreeMap.{get}
use Rattle.gn_book.specs.contracts.task.TaskOrd.TheImpl.{cmp-value}
use Rattle.gn_book.specs.Keys.{key_of}
use Rattle.gn_book.specs.Tasks.{IsTaskOf}
use Rattle.gn_book.proofs.Tasks.{put_task, put_other}
use Rattle.gn_book.proofs.ready.offer.Goals as goal

pub returns-in-None-clause-ok : goal.returns-in-None-clause-ok
returns-in-None-clause-ok c =
    let key = key_of c.args.key.now in
    put_other (get cmp-value.it c.args.ready.now) (get cmp-value.it c.args.ready.now) key (Some c.args.number) (subst (IsTaskOf key) c.in-None.is c.in_ok-task_of.ensures) (λ t. refl)

pub returns-in_ok-insert-in-Some-clause-ok : goal.returns-in_ok-insert-in-Some-clause-ok
returns-in_ok-insert-in-Some-clause-ok c =
    let key = key_of c.args.key.now in
    put_task (get cmp-value.it c.args.ready.now) (get cmp-value.it c.insert.new.self) c.in-Some.task key (Some c.args.number) (subst (IsTaskOf key) c.in-Some.is c.in_ok-task_of.ensures) c.in_ok-insert-in-Some.ensures.updates.0
