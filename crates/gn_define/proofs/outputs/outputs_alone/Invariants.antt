use Rattle.std.proofs.Common.{◌≡◌, [], drop}
use Rattle.gn_define.specs.Outputs.{paths_behind, alone_path}
use Rattle.gn_define.proofs.outputs.outputs_alone.Given as goal

abbrev pub invariant-loop-subst : goal.invariant-loop-subst
invariant-loop-subst l = paths_behind (alone_path l.fn.place) l.paths (drop l.subst-index l.substs) ≡ paths_behind (alone_path l.fn.place) [] l.substs
