use Rattle.std.proofs.Common.{arith}
use Rattle.gn_build_faults.proofs.Marked.{set_past}
use Rattle.gn_build_faults.proofs.settling.mark.Goals as goal

pub returns-else-place-marks : goal.returns-else-place-marks
returns-else-place-marks c = set_past c.args.marks.now c.args.place (omega (arith, c.if-place-marks.false))
