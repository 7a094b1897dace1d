use Rattle.std.proofs.Common.{◌<◌, List, length, nat_cmp, slice_get, sym, ◌∙◌, ap, subst}
use Rattle.std.specs.BTreeMap.{get}
use Rattle.gn_book.specs.contracts.task.TaskOrd.TheImpl.{cmp-value}
use Rattle.gn_book.specs.declared.status.Status.{Status}
use Rattle.gn_book.specs.Keys.{key_of}
use Rattle.gn_book.specs.Rosters.{TellsReady}
use Rattle.gn_book.specs.Standings.{standing_of}
use Rattle.gn_book.proofs.Rostering.{stands_as, statuses_within, tells_ready}
use Rattle.gn_book.proofs.roster.Roster.tells_ready.Goals as goal

pub returns : goal.returns
returns g c =
    subst (TellsReady c.args.self.now c.args.number) (sym c.is_ready.ensures)
    (tells_ready c.args.self.now c.args.number (standing_of g.A.Answer.meaning c.status_at.result.now) (key_of c.key.result.now) c.key.ensures
    (stands_as g.A.Answer.meaning c.self.inside.keys.keys c.self.inside.statuses.items c.args.self.now c.self.view_is c.args.number c.status_at.result.now
    (ap (λ (z : List (Status g.row.A.Denot)). slice_get z c.args.number) (sym c.deref.ensures.value) ∙ c.status_at.ensures)))

pub status_at-requires : goal.status_at-requires
status_at-requires g c = subst (λ (z : List (Status g.row.A.Denot)). c.args.number < length z) (sym c.deref.ensures.value) (statuses_within g.A.Answer.meaning c.self.inside.keys.keys c.self.inside.statuses.items (get cmp-value.it c.self.inside.ready) (get nat_cmp c.self.inside.held) c.args.self.now c.self.invariant c.self.view_is c.args.number c.requires)
