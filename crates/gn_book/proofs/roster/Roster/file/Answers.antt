use Rattle.std.proofs.Common.{map, nat_cmp, slice_set, ◌∙◌, ap}
use Rattle.std.specs.BTreeMap.{get}
use Rattle.gn_book.specs.declared.status.Status.TheVariants as status
use Rattle.gn_book.specs.contracts.task.TaskOrd.TheImpl.{cmp-value}
use Rattle.gn_book.specs.Keys.{key_of}
use Rattle.gn_book.specs.Standings.{standing_of, is_filed}
use Rattle.gn_book.proofs.Keeping.{map_set}
use Rattle.gn_book.proofs.Rostering.{statuses_within, roster_filed, roster_at, set_table}
use Rattle.gn_book.proofs.roster.Roster.file.Goals as goal

pub invariant_of-self : goal.invariant_of-self
invariant_of-self g c =
    roster_at (map key_of c.self.inside.keys.keys) (slice_set (map (standing_of g.A.Answer.meaning) c.self.inside.statuses.items) c.args.number (is_filed (g.A.Answer.meaning c.args.answer))) (map (standing_of g.A.Answer.meaning) c.stand.new.statuses.items)
    (get cmp-value.it c.self.inside.ready) (get nat_cmp c.release.new.held)
    (roster_filed (map key_of c.self.inside.keys.keys) (map (standing_of g.A.Answer.meaning) c.self.inside.statuses.items)
    (get cmp-value.it c.self.inside.ready) (get nat_cmp c.self.inside.held) (get nat_cmp c.release.new.held) c.self.invariant c.args.self.now c.self.view_is c.args.number (g.A.Answer.meaning c.args.answer) c.requires.number c.requires.claimed c.release.ensures)
    (ap (map (standing_of g.A.Answer.meaning)) c.stand.ensures ∙ map_set (standing_of g.A.Answer.meaning) c.self.inside.statuses.items c.args.number (status.Filed c.args.answer))

pub returns : goal.returns
returns g c =
    set_table (map key_of c.self.inside.keys.keys) (map (standing_of g.A.Answer.meaning) c.self.inside.statuses.items) (map (standing_of g.A.Answer.meaning) c.stand.new.statuses.items) c.args.self.now c.self.view_is c.args.number (is_filed (g.A.Answer.meaning c.args.answer))
    (ap (map (standing_of g.A.Answer.meaning)) c.stand.ensures ∙ map_set (standing_of g.A.Answer.meaning) c.self.inside.statuses.items c.args.number (status.Filed c.args.answer))

pub stand-requires : goal.stand-requires
stand-requires g c = statuses_within g.A.Answer.meaning c.self.inside.keys.keys c.self.inside.statuses.items (get cmp-value.it c.self.inside.ready) (get nat_cmp c.self.inside.held) c.args.self.now c.self.invariant c.self.view_is c.args.number c.requires.number
