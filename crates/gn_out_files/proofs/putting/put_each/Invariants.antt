use Rattle.std.proofs.Common.{◌≡◌, map}
use Rattle.std.specs.Map.Iter.{deref_pair}
use Rattle.gn_outside.specs.Lists.{Extends}
use Rattle.gn_outside.specs.States.{Put}
use Rattle.gn_out_files.specs.Keys.{files_of}
use Rattle.gn_out_files.proofs.putting.put_each.Given as goal

abbrev pub invariant-loop-key : goal.invariant-loop-key
invariant-loop-key g l = record {
  events : Extends (g.K.Sink.state l.initial.sink).events (g.K.Sink.state l.sink).events (map Put (files_of (map deref_pair l.yielded)));
  faults : (g.K.Sink.state l.sink).faults ≡ (g.K.Sink.state l.initial.sink).faults;
}
