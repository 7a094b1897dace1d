use Rattle.std.proofs.Common.{rules}
use Rattle.std.proofs.lemmas.List.Filters.{dedup_is}
use Rattle.gn_graph_faults.proofs.Ordered.{sorted_by, in_order}
use Rattle.gn_graph_faults.proofs.order.put_in_order.Goals as goal

pub returns : goal.returns
returns c =
    in_order c.label_order_has_no_ties.ensures c.args.default.now c.args.labels.now.items c.sort_unstable_by.new.self.items c.dedup.new.self.items c.sort_unstable_by.ensures.permutation
    (sorted_by c.args.default.now c.sort_unstable_by.new.self.items c.sort_unstable_by.ensures.sorted (λ a r q k. search rules)) (dedup_is _ _ _ c.dedup.ensures.filtered)
