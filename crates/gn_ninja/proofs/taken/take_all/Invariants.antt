use Rattle.std.proofs.Common.{◌≡◌, take, map}
use Rattle.std.specs.List.{fold}
use Rattle.gn_text.specs.Names.{with_name}
use Rattle.gn_ninja.proofs.taken.take_all.Given as goal

abbrev pub invariant-loop-name : goal.invariant-loop-name
invariant-loop-name l = l.taken ≡ fold with_name l.fn.taken (map (λ t. t.now) (take l.name-index l.names))
