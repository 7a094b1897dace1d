use Rattle.std.proofs.Common.{◌≡◌, take}
use Rattle.std.specs.List.{fold}
use Rattle.gn_text.specs.Names.{with_name}
use Rattle.gn_writing.proofs.lists.add_once.Given as goal

abbrev pub invariant-loop-text : goal.invariant-loop-text
invariant-loop-text l = (l.seen ≡ fold with_name l.fn.seen (take l.text-index l.texts)) × (l.kept ≡ l.seen)
