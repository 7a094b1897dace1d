use Rattle.std.proofs.Common.{◌≡◌}
use Rattle.gn_out_files.proofs.putting.announce_each.Given as goal

abbrev pub invariant-loop-key : goal.invariant-loop-key
invariant-loop-key g l = g.K.Sink.state l.sink ≡ g.K.Sink.state l.initial.sink
