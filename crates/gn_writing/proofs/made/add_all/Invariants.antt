use Rattle.std.proofs.Common.{◌≡◌, ◌++◌, take, map}
use Rattle.gn_writing.proofs.made.add_all.Given as goal

abbrev pub invariant-loop-path : goal.invariant-loop-path
invariant-loop-path l = map (λ t. t.now) l.outs.items ≡ map (λ t. t.now) l.fn.outs.items ++ take l.path-index l.paths
