use Rattle.std.proofs.Common.{arith}
use Rattle.gn_cycles.proofs.Searching.{way_begins, way_on, way_shorter, way_done}
use Rattle.gn_cycles.proofs.way.way_to.Goals as goal

pub loop-left-init : goal.loop-left-init
loop-left-init c = way_begins c.args.search.now.labels c.args.search.now.sources.items c.args.number c.new-way.result.items c.requires.within c.new-way.ensures.items

pub loop-left-preserved : goal.loop-left-preserved
loop-left-preserved c =
    way_on c.args.search.now.labels c.args.search.now.sources.items c.args.number c.loop-left.left c.at.result.now c.source_of-left.result c.loop-left.way.items c.push_copy.new.labels.items c.requires.earlier
    (omega arith) c.at.ensures c.source_of-left.ensures c.in_default.ensures c.loop-left.invariant

pub loop-left-smaller : goal.loop-left-smaller
loop-left-smaller c = way_shorter c.args.search.now.labels c.args.search.now.sources.items c.loop-left.left c.source_of-left.result c.requires.earlier (omega arith) c.source_of-left.ensures
