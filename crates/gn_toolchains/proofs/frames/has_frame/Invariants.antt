use Rattle.std.proofs.Common.{◌≡◌, drop}
use Rattle.gn_toolchains.specs.Frames.{texts_in, has_text}
use Rattle.gn_toolchains.proofs.frames.has_frame.Given as goal

abbrev pub invariant-loop-frame : goal.invariant-loop-frame
invariant-loop-frame l = has_text (texts_in (drop l.frame-index l.frames)) l.text ≡ has_text (texts_in l.frames) l.text
