use Rattle.std.proofs.Common.{◌<◌, length, map, nat_cmp, sym, ◌∙◌, ap, subst}
use Rattle.std.specs.BTreeMap.{get}
use Rattle.gn_book.specs.contracts.task.TaskOrd.TheImpl.{cmp-value}
use Rattle.gn_book.specs.Keys.{key_of}
use Rattle.gn_book.specs.Rosters.{Table}
use Rattle.gn_book.specs.Standings.{standing_of, standing_at, answer_in}
use Rattle.gn_book.proofs.Rostering.{got_within, lacking, answer_of_key}
use Rattle.gn_book.proofs.roster.Roster.find.Goals as goal

pub returns-in-None : goal.returns-in-None
returns-in-None g c =
    ap answer_in (sym (lacking (map key_of c.self.inside.keys.keys) (map (standing_of g.A.Answer.meaning) c.self.inside.statuses.items) (key_of c.args.key.now) c.in-None.ensures))
    ∙ ap (λ (t : Table). answer_in (standing_at t.keys t.standings (key_of c.args.key.now))) c.self.view_is

pub answer-requires : goal.answer-requires
answer-requires g c = subst (λ (t : Table). c.in-Some.number < length t.keys) c.self.view_is (got_within (map key_of c.self.inside.keys.keys) c.in-Some.number (key_of c.args.key.now) c.in-Some.ensures)

pub returns-in-Some : goal.returns-in-Some
returns-in-Some g c =
    c.answer.ensures
    ∙ answer_of_key (map key_of c.self.inside.keys.keys) (map (standing_of g.A.Answer.meaning) c.self.inside.statuses.items) (get cmp-value.it c.self.inside.ready) (get nat_cmp c.self.inside.held) c.args.self.now c.self.invariant c.self.view_is
    c.in-Some.number (key_of c.args.key.now) c.in-Some.ensures
