use Rattle.std.proofs.Common.{◌≡◌, [], take}
use Rattle.std.specs.List.{fold}
use Rattle.gn_text.specs.Names.{with_name}
use Rattle.gn_writing.specs.Rest.{joined}
use Rattle.gn_writing.proofs.lists.each_once.Given as goal

abbrev pub invariant-loop-list : goal.invariant-loop-list
invariant-loop-list l = (l.seen ≡ fold with_name [] (joined (take l.list-index l.lists))) × (l.kept ≡ l.seen)
