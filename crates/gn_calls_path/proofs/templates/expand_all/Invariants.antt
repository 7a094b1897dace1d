use Rattle.std.proofs.Common.{◌≡◌, ◌++◌, drop}
use Rattle.gn_calls_path.specs.Templates.{expanded_all}
use Rattle.gn_calls_path.proofs.templates.expand_all.Given as goal

abbrev pub invariant-loop-source : goal.invariant-loop-source
invariant-loop-source l = l.texts.items ++ expanded_all l.at (drop l.source-index l.sources) l.templates ≡ expanded_all l.at l.sources l.templates
