use Rattle.std.proofs.Common.{Some, map, nat_cmp, slice_set, refl, sym, ◌∙◌, ap}
use Rattle.std.specs.BTreeMap.{get}
use Rattle.gn_book.specs.declared.status.Status.TheVariants as status
use Rattle.gn_book.specs.contracts.task.TaskOrd.TheImpl.{cmp-value}
use Rattle.gn_book.specs.Keys.{key_of}
use Rattle.gn_book.specs.Standings.{standing_of, is_claimed}
use Rattle.gn_book.proofs.Keeping.{map_set}
use Rattle.gn_book.proofs.Rostering.{statuses_within, roster_same, roster_set, roster_at, within_table, named_as, set_table}
use Rattle.gn_book.proofs.roster.Roster.claim_open.Goals as goal

pub invariant_of-self-in-Err : goal.invariant_of-self-in-Err
invariant_of-self-in-Err g c =
    roster_same (map key_of c.self.inside.keys.keys) (map (standing_of g.A.Answer.meaning) c.self.inside.statuses.items)
    (get cmp-value.it c.self.inside.ready) (get cmp-value.it c.self.inside.ready) (get nat_cmp c.self.inside.held) (get nat_cmp c.hold.new.held) c.self.invariant (λ t. refl) c.in-Err.ensures.err

pub invariant_of-self : goal.invariant_of-self
invariant_of-self g c =
    roster_at (map key_of c.self.inside.keys.keys) (slice_set (map (standing_of g.A.Answer.meaning) c.self.inside.statuses.items) c.args.number (is_claimed c.args.seat)) (map (standing_of g.A.Answer.meaning) c.stand.new.statuses.items)
    (get cmp-value.it c.withdraw.new.ready) (get nat_cmp c.hold.new.held)
    (roster_set (map key_of c.self.inside.keys.keys) (map (standing_of g.A.Answer.meaning) c.self.inside.statuses.items)
    (get cmp-value.it c.self.inside.ready) (get cmp-value.it c.withdraw.new.ready) (get nat_cmp c.self.inside.held) (get nat_cmp c.hold.new.held) c.self.invariant
    c.args.number (is_claimed c.args.seat) (within_table (map key_of c.self.inside.keys.keys) (map (standing_of g.A.Answer.meaning) c.self.inside.statuses.items) c.args.self.now c.self.view_is c.args.number c.requires.number) (λ e. cc e)
    (named_as c.args.self.now (map key_of c.self.inside.keys.keys) (map (standing_of g.A.Answer.meaning) c.self.inside.statuses.items) c.self.view_is c.args.number (key_of c.in_ok-named.named) (c.key.ensures ∙ ap (λ z. Some (key_of z)) (sym c.in_ok-named.ensures))
    (get cmp-value.it c.self.inside.ready) (get cmp-value.it c.withdraw.new.ready) c.withdraw.ensures.ready)
    c.in-Ok.ensures.ok)
    (ap (map (standing_of g.A.Answer.meaning)) c.stand.ensures ∙ map_set (standing_of g.A.Answer.meaning) c.self.inside.statuses.items c.args.number (status.Claimed c.args.seat))

pub returns-in-Ok-clause-ok : goal.returns-in-Ok-clause-ok
returns-in-Ok-clause-ok g c =
    set_table (map key_of c.self.inside.keys.keys) (map (standing_of g.A.Answer.meaning) c.self.inside.statuses.items) (map (standing_of g.A.Answer.meaning) c.stand.new.statuses.items) c.args.self.now c.self.view_is c.args.number (is_claimed c.args.seat)
    (ap (map (standing_of g.A.Answer.meaning)) c.stand.ensures ∙ map_set (standing_of g.A.Answer.meaning) c.self.inside.statuses.items c.args.number (status.Claimed c.args.seat))

pub stand-requires : goal.stand-requires
stand-requires g c = statuses_within g.A.Answer.meaning c.self.inside.keys.keys c.self.inside.statuses.items (get cmp-value.it c.self.inside.ready) (get nat_cmp c.self.inside.held) c.args.self.now c.self.invariant c.self.view_is c.args.number c.requires.number
