use Rattle.std.proofs.Common.{◌≡◌, take, map}
use Rattle.std.specs.List.{fold}
use Rattle.gn_text.specs.Names.{with_name}
use Rattle.gn_ninja.proofs.parts.add_paths.Given as goal

abbrev pub invariant-loop-path : goal.invariant-loop-path
invariant-loop-path l = (l.seen ≡ fold with_name l.fn.seen (take l.path-index l.more)) × (map (λ t. t.now) l.paths.items ≡ l.seen)
