use Rattle.std.proofs.Common.{[], sym, subst}
use Rattle.std.proofs.lemmas.Option.{slice_get-get_or}
use Rattle.gn_closure.specs.Ground.{Set_up}
use Rattle.gn_graph.specs.declared.counts.Counts.{Counts}
use Rattle.gn_graph.specs.Facts.{step_of}
use Rattle.gn_graph.specs.Counts.{AreCounts}
use Rattle.gn_graph.proofs.Counting.{counts_below, next_counts}
use Rattle.gn_graph.proofs.counts.count_next.Goals as goal

pub count-requires-clause-loads : goal.count-requires-clause-loads
count-requires-clause-loads c = (counts_below c.args.closure.now.found c.args.counts c.requires.counts).0

pub count-requires-clause-setups : goal.count-requires-clause-setups
count-requires-clause-setups c = (counts_below c.args.closure.now.found c.args.counts c.requires.counts).1

pub unreachable-requires : goal.unreachable-requires
unreachable-requires c =
    let some = slice_get-get_or c.args.closure.now.found c.args.counts.seen (Set_up []) c.requires.more in
    absurd (cc (c.in-None.ensures.fact, some))

pub returns-clause-counts : goal.returns-clause-counts
returns-clause-counts c =
    subst (λ (z : Counts). AreCounts c.args.closure.now.found z) (sym c.count.ensures)
    (next_counts c.args.closure.now.found c.args.counts (step_of c.in-Some.fact.now) (sym c.in-Some.ensures.fact) c.requires.counts)
