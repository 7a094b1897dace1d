use Rattle.std.proofs.Common.{◌≡◌, ◌++◌, take, map}
use Rattle.std.specs.List.{flat_map}
use Rattle.gn_ninja.specs.Format.{line_text}
use Rattle.gn_ninja.specs.Code.{indented}
use Rattle.gn_ninja.proofs.values.append_indented.Given as goal

abbrev pub invariant-loop-binding : goal.invariant-loop-binding
invariant-loop-binding l = l.text.items ≡ l.fn.text.items ++ flat_map line_text (map indented (take l.binding-index l.bindings))
