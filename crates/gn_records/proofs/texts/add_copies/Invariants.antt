use Rattle.std.proofs.Common.{◌≡◌, ◌++◌, take}
use Rattle.gn_records.proofs.texts.add_copies.Given as goal

abbrev pub invariant-loop-text : goal.invariant-loop-text
invariant-loop-text l = l.list ≡ l.fn.list ++ take l.text-index l.texts
