use Rattle.gn_chains.proofs.Numbering.{number_put, nothing_put}
use Rattle.gn_chains.proofs.edges.add_number.Goals as goal

pub returns-in_ok-insert : goal.returns-in_ok-insert
returns-in_ok-insert c = λ q. number_put c.args.walked.now c.number.ensures.once c.args.out.now.keys c.insert.new.self.keys c.in-Some.number c.args.label.now c.in-Some.ensures.found c.in_ok-insert.ensures.keys q

pub returns-in_default : goal.returns-in_default
returns-in_default c = λ q. nothing_put c.args.walked.now c.args.out.now.keys c.args.label.now c.in_default.ensures.lacking q
