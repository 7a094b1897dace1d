use Rattle.std.proofs.Common.{◌≡◌, [], drop}
use Rattle.gn_define.specs.Outputs.{paths_behind, source_path}
use Rattle.gn_define.proofs.outputs.outputs_for.Given as goal

abbrev pub invariant-loop-subst : goal.invariant-loop-subst
invariant-loop-subst l = paths_behind (source_path l.fn.place l.fn.source) l.paths (drop l.subst-index l.substs) ≡ paths_behind (source_path l.fn.place l.fn.source) [] l.substs
