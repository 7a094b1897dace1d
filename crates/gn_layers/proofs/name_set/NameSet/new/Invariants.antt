use Rattle.std.proofs.Common.{take}
use Rattle.gn_layers.specs.NameSets.{HasAll}
use Rattle.gn_layers.proofs.name_set.NameSet.new.Given as goal

abbrev pub invariant-loop-name : goal.invariant-loop-name
invariant-loop-name l = HasAll l.table (take l.name-index l.name-items)
