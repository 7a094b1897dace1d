use Rattle.gn_chains.proofs.Offers.{offered_one}
use Rattle.gn_chains.proofs.candidates.put.Goals as goal

pub returns : goal.returns
returns c =
    offered_one c.keys_are_in_label_order.ensures c.args.default.now c.args.walked.now c.args.candidates.now c.insert.new.self c.in_ok-candidate.candidate c.args.number c.in_ok-candidate.ensures
    c.in_ok-insert.ensures.updates.0 c.in_ok-insert.ensures.keys
