use Rattle.std.proofs.Common.{Some, nat_cmp}
use Rattle.std.specs.BTreeMap.{get}
use Rattle.gn_book.proofs.Tasks.{put_seat}
use Rattle.gn_book.proofs.held.hold.Goals as goal

pub returns-clause-ok : goal.returns-clause-ok
returns-clause-ok c = put_seat (get nat_cmp c.args.held.now) (get nat_cmp c.insert.new.self) c.args.number (Some c.args.seat) c.in_ok-insert.ensures.updates.0
