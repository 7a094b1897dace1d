use Rattle.std.proofs.Common.{◌↔◌, IsTrue, List, map, ◌∙◌, ap, subst}
use Rattle.gn_book.specs.Chains.{LeadsTo}
use Rattle.gn_book.specs.Rosters.{Table}
use Rattle.gn_book.specs.Standings.{Standing, standing_of, next_of}
use Rattle.gn_book.proofs.roster.Roster.leads.Goals as goal

pub returns : goal.returns
returns g c =
    subst (λ (z : List Standing). IsTrue c.leads_to.result ↔ LeadsTo (next_of z) c.args.from c.args.to)
    (ap (map (standing_of g.A.Answer.meaning)) c.deref.ensures.value ∙ ap (λ (t : Table). t.standings) c.self.view_is) c.leads_to.ensures
