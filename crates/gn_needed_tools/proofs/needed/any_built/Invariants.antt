use Rattle.std.proofs.Common.{◌≡◌, drop}
use Rattle.std.specs.List.{list_any}
use Rattle.gn_needed_tools.specs.Needed.{builds}
use Rattle.gn_needed_tools.proofs.needed.any_built.Given as goal

abbrev pub invariant-loop-source : goal.invariant-loop-source
invariant-loop-source l = list_any (builds l.tool) (drop l.source-index l.sources) ≡ list_any (builds l.tool) l.sources
