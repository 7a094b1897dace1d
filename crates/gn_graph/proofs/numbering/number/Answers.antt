use Rattle.gn_graph.proofs.FactEq.{grown, stored}
use Rattle.gn_graph.proofs.numbering.number.Goals as goal

pub returns-clause-grows : goal.returns-clause-grows
returns-clause-grows c = grown c.args.facts.now.keys c.insert_full.new.self.keys c.args.fact c.in_ok-number.ensures.keys c.in_ok-number.ensures.unique

pub returns-clause-at : goal.returns-clause-at
returns-clause-at c = let s = c.in_ok-number.ensures.stored in stored c.insert_full.new.self.keys c.args.fact c.in_ok-number.number s.0 s.1 s.2
