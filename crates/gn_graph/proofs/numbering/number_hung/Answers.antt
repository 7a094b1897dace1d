use Rattle.gn_closure.specs.Computed.{is_reached}
use Rattle.gn_graph.specs.Facts.{unit_of, meant, needed, steps_in}
use Rattle.gn_graph.proofs.States.{numbered_hung}
use Rattle.gn_graph.proofs.numbering.number_hung.Goals as goal

pub returns-clause-numbered : goal.returns-clause-numbered
returns-clause-numbered c =
    numbered_hung (steps_in c.number_rule.new.facts.keys) c.args.held.now c.number_rule.new.needs.items c.push.new.self.items (is_reached (unit_of c.args.unit.now))
    (needed c.args.rule.now.needs) (meant c.args.rule.now.gives) c.args.number c.in_ok-gives.gives c.in_ok-push.ensures.items
    (c.in_ok-gives.ensures.grows.0 c.args.number (is_reached (unit_of c.args.unit.now)) c.requires) c.in_ok-gives.ensures.numbered
