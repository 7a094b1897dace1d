use Rattle.gn_resolve.proofs.HardLists.{in_order_along}
use Rattle.gn_resolve.proofs.hard.hard.Goals as goal

pub returns : goal.returns
returns c =
    in_order_along c.args.graph.now.items c.args.graph.now.records c.args.graph.now.default.now c.args.target.now c.in_ok-labels.labels.items c.put_in_order.new.labels.items
    c.in_ok-labels.ensures c.put_in_order.ensures
