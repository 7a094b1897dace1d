use Rattle.std.proofs.Common.{◌≡◌, length}
use Rattle.gn_book.specs.Rosters.{IsFirstBelow}
use Rattle.gn_book.proofs.roster.Roster.first_ready.Given as goal

abbrev pub invariant-loop-number : goal.invariant-loop-number
invariant-loop-number g l = record {
  first : IsFirstBelow l.self l.number l.first;
  end : l.number-end ≡ length l.self.keys;
}
