use Rattle.std.proofs.Common.{◌≡◌, ◌++◌, map, drop}
use Rattle.gn_substs.specs.Expansions.{expanded}
use Rattle.gn_calls_path.proofs.templates.expand_each.Given as goal

abbrev pub invariant-loop-template : goal.invariant-loop-template
invariant-loop-template l = l.texts.items ++ map (expanded l.given) (drop l.template-index l.templates) ≡ l.fn.texts.items ++ map (expanded l.given) l.templates
