use Rattle.std.proofs.Common.{map, nat_cmp, subst}
use Rattle.std.specs.BTreeMap.{get}
use Rattle.gn_book.specs.contracts.task.TaskOrd.TheImpl.{cmp-value}
use Rattle.gn_book.specs.Keys.{key_of}
use Rattle.gn_book.specs.Rosters.{Table, IsOneHeld}
use Rattle.gn_book.specs.Standings.{standing_of}
use Rattle.gn_book.proofs.Rostering.{held_by}
use Rattle.gn_book.proofs.roster.Roster.first_held.Goals as goal

pub returns : goal.returns
returns g c =
    subst (λ (t : Table). IsOneHeld t c.first_held.result) c.self.view_is
    (held_by (map key_of c.self.inside.keys.keys) (map (standing_of g.A.Answer.meaning) c.self.inside.statuses.items) (get cmp-value.it c.self.inside.ready) (get nat_cmp c.self.inside.held) c.self.invariant c.first_held.result c.first_held.ensures)
