use Rattle.std.proofs.Common.{map, nat_cmp, ap}
use Rattle.std.specs.BTreeMap.{get}
use Rattle.gn_book.specs.contracts.task.TaskOrd.TheImpl.{cmp-value}
use Rattle.gn_book.specs.Keys.{key_of}
use Rattle.gn_book.specs.Standings.{standing_of}
use Rattle.gn_book.proofs.Tasks.{no_entries}
use Rattle.gn_book.proofs.Rostering.{new_roster}
use Rattle.gn_book.proofs.roster.Roster.new.Goals as goal

pub invariant_of-result : goal.invariant_of-result
invariant_of-result g c =
    new_roster (map key_of c.new.result.keys) (map (standing_of g.A.Answer.meaning) c.new-2.result.items) (get cmp-value.it c.new-3.result) (get nat_cmp c.new-5.result)
    (ap (map key_of) c.new.ensures.empty) (ap (map (standing_of g.A.Answer.meaning)) c.new-2.ensures.items) (no_entries cmp-value.it c.new-3.result c.new-3.ensures.empty) (no_entries nat_cmp c.new-5.result c.new-5.ensures.empty)
