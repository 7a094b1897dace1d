use Rattle.std.proofs.Common.{length, map, nat_cmp, subst, ap, sym, ◌∙◌, arith}
use Rattle.std.specs.BTreeMap.{get}
use Rattle.gn_book.specs.contracts.task.TaskOrd.TheImpl.{cmp-value}
use Rattle.gn_book.specs.Keys.{key_of}
use Rattle.gn_book.specs.Rosters.{Table, IsFirstBelow}
use Rattle.gn_book.specs.Standings.{standing_of}
use Rattle.gn_book.proofs.Steps.{map_length}
use Rattle.gn_book.proofs.Rostering.{first_by, first_of_all}
use Rattle.gn_book.proofs.roster.Roster.first_ready.Goals as goal

pub loop-number-init : goal.loop-number-init
loop-number-init g c = record {
  first = subst (λ (t : Table). IsFirstBelow t c.self.inside.fresh c.first_ready-first.result) c.self.view_is
      (first_by (map key_of c.self.inside.keys.keys) (map (standing_of g.A.Answer.meaning) c.self.inside.statuses.items) (get cmp-value.it c.self.inside.ready) (get nat_cmp c.self.inside.held) c.self.invariant c.first_ready-first.result c.first_ready-first.ensures);
  end = c.len-number-end.ensures.len ∙ sym (map_length key_of c.self.inside.keys.keys) ∙ ap (λ (t : Table). length t.keys) c.self.view_is;
}

pub returns : goal.returns
returns g c = first_of_all c.args.self.now c.loop-number.number c.loop-number.first c.loop-number.invariant.first (omega (arith, c.loop-number.invariant.end, c.loop-number-test.false))
