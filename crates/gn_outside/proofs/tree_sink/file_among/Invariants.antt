use Rattle.std.proofs.Common.{◌≡◌}
use Rattle.std.specs.Prelude.{drop}
use Rattle.gn_outside.proofs.EventLemmas.{file_in}
use Rattle.gn_outside.proofs.tree_sink.file_among.Given as goal

abbrev pub invariant-loop-event : goal.invariant-loop-event
invariant-loop-event l = file_in (drop l.event-index l.events) l.left ≡ file_in l.events l.n
