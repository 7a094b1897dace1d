use Rattle.std.proofs.Common.{◌≡◌}
use Rattle.gn_book.proofs.roster.Roster.pass_all.Given as goal

abbrev pub invariant-loop-step : goal.invariant-loop-step
invariant-loop-step g l = l.self ≡ l.initial.self
