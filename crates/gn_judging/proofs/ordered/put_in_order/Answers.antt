use Rattle.std.proofs.lemmas.List.Filters.{dedup_is}
use Rattle.gn_judging.proofs.TableLemmas.{sorted_once}
use Rattle.gn_judging.proofs.ordered.put_in_order.Goals as goal

pub returns : goal.returns
returns g c =
    sorted_once g.T.Ord.cmp g.T.PartialEq.eq g.met.T.Ord.total g.met.T.Ord.matches_eq c.args.entries.now.items _ c.dedup.new.self.items c.in_ok-sort.ensures.permutation c.in_ok-sort.ensures.sorted
    (dedup_is _ _ _ c.dedup.ensures.filtered)
