use Rattle.std.proofs.Common.{List, Some, map, nat_cmp, option_map, slice_get, refl, sym, ◌∙◌, ap}
use Rattle.std.proofs.lemmas.Option.{slice_get-map}
use Rattle.std.specs.BTreeMap.{get}
use Rattle.gn_book.specs.contracts.task.TaskOrd.TheImpl.{cmp-value}
use Rattle.gn_book.specs.declared.status.Status.{Status}
use Rattle.gn_book.specs.Keys.{key_of}
use Rattle.gn_book.specs.Standings.{standing_of}
use Rattle.gn_book.proofs.Rostering.{roster_same, roster_pass, standing_by, open_is}
use Rattle.gn_book.proofs.roster.Roster.offer_next.Goals as goal

pub invariant_of-self : goal.invariant_of-self
invariant_of-self g c =
    roster_same (map key_of c.self.inside.keys.keys) (map (standing_of g.A.Answer.meaning) c.self.inside.statuses.items) (get cmp-value.it c.self.inside.ready) (get cmp-value.it c.offer.new.ready) (get nat_cmp c.self.inside.held) (get nat_cmp c.self.inside.held) c.self.invariant
    c.in_err-offer.ensures.err (λ n. refl)

pub invariant_of-self-then-is_open : goal.invariant_of-self-then-is_open
invariant_of-self-then-is_open g c =
    roster_pass (map key_of c.self.inside.keys.keys) (map (standing_of g.A.Answer.meaning) c.self.inside.statuses.items) (get cmp-value.it c.self.inside.ready) (get cmp-value.it c.offer.new.ready) (get nat_cmp c.self.inside.held) c.self.invariant
    (key_of c.key_at.result.now) (slice_get-map key_of c.self.inside.keys.keys c.self.inside.fresh ∙ ap (option_map key_of) c.key_at.ensures)
    ((standing_by g.A.Answer.meaning c.self.inside.statuses.items c.self.inside.fresh c.status_at.result.now (ap (λ (z : List (Status g.row.A.Denot)). slice_get z c.self.inside.fresh) (sym c.deref.ensures.value) ∙ c.status_at.ensures))
    ∙ ap Some (open_is (standing_of g.A.Answer.meaning c.status_at.result.now) (sym c.if-is_open.ensures)))
    c.in_ok-offer.ensures.ok
