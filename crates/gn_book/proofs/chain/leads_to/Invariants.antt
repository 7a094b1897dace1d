use Rattle.std.proofs.Common.{◌≡◌, Some, map, length}
use Rattle.gn_book.specs.Standings.{standing_of, next_of}
use Rattle.gn_book.specs.Chains.{walk}
use Rattle.gn_book.proofs.Back.{Missed}
use Rattle.gn_book.proofs.chain.leads_to.Given as goal

abbrev pub invariant-loop-step : goal.invariant-loop-step
invariant-loop-step g l = record {
  goes : walk (next_of (map (standing_of g.A.Answer.meaning) l.statuses)) l._step l.from ≡ Some l.at;
  missed : Missed (next_of (map (standing_of g.A.Answer.meaning) l.statuses)) l._step l.from l.to;
  room : l._step-end ≡ length l.statuses;
}
