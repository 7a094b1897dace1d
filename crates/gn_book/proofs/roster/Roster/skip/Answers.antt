use Rattle.std.proofs.Common.{◌≡◌, List, length, map, nat_cmp, slice_get, sym, ◌∙◌, ap, arith}
use Rattle.std.specs.BTreeMap.{get}
use Rattle.gn_book.specs.contracts.task.TaskOrd.TheImpl.{cmp-value}
use Rattle.gn_book.specs.declared.status.Status.{Status}
use Rattle.gn_book.specs.Keys.{key_of}
use Rattle.gn_book.specs.Standings.{standing_of}
use Rattle.gn_book.proofs.Steps.{map_length}
use Rattle.gn_book.proofs.Rostering.{roster_skip, standing_by, shut_by}
use Rattle.gn_book.proofs.roster.Roster.skip.Goals as goal

pub invariant_of-self : goal.invariant_of-self
invariant_of-self g c =
    roster_skip (map key_of c.self.inside.keys.keys) (map (standing_of g.A.Answer.meaning) c.self.inside.statuses.items) (get cmp-value.it c.self.inside.ready) (get nat_cmp c.self.inside.held) c.self.invariant
    (let many : length (map key_of c.self.inside.keys.keys) ≡ length c.self.inside.keys.keys = map_length key_of c.self.inside.keys.keys in omega (arith, many, c.if-self-len.true, c.len.ensures.len))
    (shut_by (map (standing_of g.A.Answer.meaning) c.self.inside.statuses.items) c.self.inside.fresh (standing_of g.A.Answer.meaning c.status_at.result.now)
    (standing_by g.A.Answer.meaning c.self.inside.statuses.items c.self.inside.fresh c.status_at.result.now (ap (λ (z : List (Status g.row.A.Denot)). slice_get z c.self.inside.fresh) (sym c.deref.ensures.value) ∙ c.status_at.ensures))
    (sym c.if-not-is_open.ensures))
