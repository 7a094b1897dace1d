use Rattle.std.proofs.Common.{◌≡◌, Some}
use Rattle.gn_imports.specs.Causes.{led}
use Rattle.gn_book.specs.Keys.{layer_at}
use Rattle.gn_builds.specs.Causes.{link_at, IsUnusable}
use Rattle.gn_judging.proofs.causes.follow.Given as goal

abbrev pub invariant-loop-step : goal.invariant-loop-step
invariant-loop-step l = record {
  leads : led (link_at (layer_at l.when l.toolchain) l.book) l._step l.path ≡ Some l.at;
  unusable : IsUnusable (layer_at l.when l.toolchain) l.book l.at;
}
