use Rattle.std.proofs.Common.{None, refl, ap}
use Rattle.std.specs.BTreeMap.{get}
use Rattle.gn_book.specs.contracts.task.TaskOrd.TheImpl.{cmp-value}
use Rattle.gn_book.specs.Keys.{key_of}
use Rattle.gn_book.proofs.Tasks.{put_task, put_other}
use Rattle.gn_book.proofs.ready.withdraw.Goals as goal

pub returns-in-Err-clause-ready : goal.returns-in-Err-clause-ready
returns-in-Err-clause-ready c = put_other (get cmp-value.it c.args.ready.now) (get cmp-value.it c.args.ready.now) (key_of c.args.key) None c.in-Err.ensures.other.1 (λ t. refl)

pub returns-in-Ok-clause-ready : goal.returns-in-Ok-clause-ready
returns-in-Ok-clause-ready c =
    put_task (get cmp-value.it c.args.ready.now) (get cmp-value.it c.remove.new.self) c.in-Ok.task (key_of c.args.key) None (ap key_of c.in-Ok.ensures.task) c.remove.ensures.updates.0
