use Rattle.std.proofs.Common.{◌≡◌, map, take}
use Rattle.gn_substs.specs.Sources.{source_text}
use Rattle.gn_substs.proofs.given.Given.of_source.Given as goal

abbrev pub invariant-loop-name : goal.invariant-loop-name
invariant-loop-name l = l.texts.items ≡ map (source_text l.position l.around.target.now l.around.build.now l.around.out.now l.source) (take l.name-index l.names)
