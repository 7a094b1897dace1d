use Rattle.gn_core.specs.Machine.{import_limit}
use Rattle.gn_book.specs.Keys.{layer_at}
use Rattle.gn_judging.proofs.LinkLemmas.{IsLeftOver}
use Rattle.gn_judging.proofs.causes.least_place.Given as goal

abbrev pub invariant-loop-step : goal.invariant-loop-step
invariant-loop-step l = IsLeftOver (layer_at l.when l.toolchain) l.book l._step import_limit l.least l.at l.place l.path
