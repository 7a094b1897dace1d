use Rattle.std.proofs.Common.{refl, arith}
use Rattle.gn_graph.specs.Facts.{step_of}
use Rattle.gn_book.specs.Graphs.{none, more}
use Rattle.gn_book.proofs.reached.number_facts.Goals as goal

pub loop-seen-init : goal.loop-seen-init
loop-seen-init g c = (none refl refl, omega (arith, c.requires, c.len-end.ensures.len))

pub loop-seen-preserved : goal.loop-seen-preserved
loop-seen-preserved g c = (more c.loop-seen.seen c.loop-seen.roster (step_of c.fact_at.result.now) c.loop-seen.invariant.0 c.fact_at.ensures refl c.in_ok-number_fact.ensures.ok, omega arith)

pub returns-clause-all : goal.returns-clause-all
returns-clause-all g c = omega (arith, c.loop-seen.invariant.1, c.len-end.ensures.len)

pub returns-clause-within : goal.returns-clause-within
returns-clause-within g c = omega (arith, c.loop-seen.invariant.1, c.len-end.ensures.len)
