use Rattle.std.proofs.Common.{◌<◌, List, length, nat_cmp, subst, slice_get, sym, ◌∙◌, ap}
use Rattle.std.specs.BTreeMap.{get}
use Rattle.gn_book.specs.contracts.task.TaskOrd.TheImpl.{cmp-value}
use Rattle.gn_book.specs.declared.status.Status.{Status}
use Rattle.gn_book.specs.Standings.{answer_in}
use Rattle.gn_book.proofs.Rostering.{stands_as, statuses_within}
use Rattle.gn_book.proofs.roster.Roster.answer.Goals as goal

pub returns : goal.returns
returns g c =
    c.answer.ensures
    ∙ ap answer_in (sym (stands_as g.A.Answer.meaning c.self.inside.keys.keys c.self.inside.statuses.items c.args.self.now c.self.view_is c.args.number c.status_at.result.now
    (ap (λ (z : List (Status g.row.A.Denot)). slice_get z c.args.number) (sym c.deref.ensures.value) ∙ c.status_at.ensures)))

pub status_at-requires : goal.status_at-requires
status_at-requires g c = subst (λ (z : List (Status g.row.A.Denot)). c.args.number < length z) (sym c.deref.ensures.value) (statuses_within g.A.Answer.meaning c.self.inside.keys.keys c.self.inside.statuses.items (get cmp-value.it c.self.inside.ready) (get nat_cmp c.self.inside.held) c.args.self.now c.self.invariant c.self.view_is c.args.number c.requires)
