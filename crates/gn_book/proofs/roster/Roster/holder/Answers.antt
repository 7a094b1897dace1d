use Rattle.std.proofs.Common.{◌<◌, length, nat_cmp, List, Option, slice_get, sym, ◌∙◌, ap, subst}
use Rattle.std.specs.BTreeMap.{get}
use Rattle.gn_book.specs.contracts.task.TaskOrd.TheImpl.{cmp-value}
use Rattle.gn_book.specs.declared.status.Status.{Status}
use Rattle.gn_book.specs.Standings.{Standing}
use Rattle.gn_book.specs.Holders.{HoldsAs}
use Rattle.gn_book.proofs.Rostering.{stands_as, statuses_within}
use Rattle.gn_book.proofs.roster.Roster.holder.Goals as goal

pub returns : goal.returns
returns g c =
    subst (λ (z : Option Standing). HoldsAs z c.holder.result)
    (sym (stands_as g.A.Answer.meaning c.self.inside.keys.keys c.self.inside.statuses.items c.args.self.now c.self.view_is c.args.number c.status_at.result.now
    (ap (λ (z : List (Status g.row.A.Denot)). slice_get z c.args.number) (sym c.deref.ensures.value) ∙ c.status_at.ensures)))
    c.holder.ensures

pub status_at-requires : goal.status_at-requires
status_at-requires g c = subst (λ (z : List (Status g.row.A.Denot)). c.args.number < length z) (sym c.deref.ensures.value) (statuses_within g.A.Answer.meaning c.self.inside.keys.keys c.self.inside.statuses.items (get cmp-value.it c.self.inside.ready) (get nat_cmp c.self.inside.held) c.args.self.now c.self.invariant c.self.view_is c.args.number c.requires)
