use Rattle.std.proofs.Common.{◌≡◌, ◌++◌, take}
use Rattle.gn_resolve.proofs.libraries.add_copies.Given as goal

abbrev pub invariant-loop-text : goal.invariant-loop-text
invariant-loop-text l = l.out ≡ l.fn.out ++ take l.text-index l.texts
