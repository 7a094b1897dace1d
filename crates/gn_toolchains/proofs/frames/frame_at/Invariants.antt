use Rattle.std.proofs.Common.{◌≡◌, drop}
use Rattle.gn_toolchains.specs.Frames.{frame_at}
use Rattle.gn_toolchains.proofs.frames.frame_at.Given as goal

abbrev pub invariant-loop-frame : goal.invariant-loop-frame
invariant-loop-frame l = frame_at l.text (drop l.frame-index l.frames) ≡ frame_at l.text l.frames
