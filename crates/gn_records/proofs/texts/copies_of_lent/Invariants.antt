use Rattle.std.proofs.Common.{◌≡◌, map, take}
use Rattle.gn_records.proofs.texts.copies_of_lent.Given as goal

abbrev pub invariant-loop-text : goal.invariant-loop-text
invariant-loop-text l = l.list.items ≡ map (λ t. t.now) (take l.text-index l.texts)
