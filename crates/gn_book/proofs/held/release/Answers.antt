use Rattle.std.proofs.Common.{None, nat_cmp}
use Rattle.std.specs.BTreeMap.{get}
use Rattle.gn_book.proofs.Tasks.{put_seat}
use Rattle.gn_book.proofs.held.release.Goals as goal

pub returns : goal.returns
returns c = put_seat (get nat_cmp c.args.held.now) (get nat_cmp c.remove.new.self) c.args.number None c.remove.ensures.updates.0
