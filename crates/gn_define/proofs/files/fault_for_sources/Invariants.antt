use Rattle.std.proofs.Common.{◌≡◌, drop}
use Rattle.gn_define.specs.Files.{source_fault, first_fault}
use Rattle.gn_define.proofs.files.fault_for_sources.Given as goal

abbrev pub invariant-loop-source : goal.invariant-loop-source
invariant-loop-source l = first_fault (source_fault l.place l.role l.subst) (drop l.source-index l.sources) ≡ first_fault (source_fault l.place l.role l.subst) l.sources
