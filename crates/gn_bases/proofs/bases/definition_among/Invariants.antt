use Rattle.std.proofs.Common.{◌≡◌, drop}
use Rattle.gn_projects.specs.Bases.{definition_among}
use Rattle.gn_bases.proofs.bases.definition_among.Given as goal

abbrev pub invariant-loop-item : goal.invariant-loop-item
invariant-loop-item l = definition_among l.toolchain (drop l.item-index l.items) ≡ definition_among l.toolchain l.items
