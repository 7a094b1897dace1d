use Rattle.std.proofs.lemmas.Result.{IfOk-weaker}
use Rattle.gn_book.specs.Logs.{state_of}
use Rattle.gn_load.proofs.OwnLemmas.{needs_own}
use Rattle.gn_load.proofs.own_file.own_need.Goals as goal

pub returns-in-Load : goal.returns-in-Load
returns-in-Load c = rw c.in-Load.is (IfOk-weaker c.unfiled_own.result _ _ (needs_own (state_of c.args.book.now).filed c.in-Load.directory c.in-Load.field-1) c.unfiled_own.ensures)
