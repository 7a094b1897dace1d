use Rattle.gn_projects.specs.Loaded.{lines}
use Rattle.gn_built.proofs.BuiltLemmas.{within_index, left_more}
use Rattle.gn_built.proofs.built.append_all.Goals as goal

pub left_at-requires : goal.left_at-requires
left_at-requires c = within_index c.args.book.now c.args.numbers.now c.requires c.loop-number.number-index c.loop-number-test.true

pub loop-number-preserved : goal.loop-number-preserved
loop-number-preserved c = left_more lines c.args.book.now c.args.numbers.now c.loop-number.number-index c.args.text.now.items c.loop-number.text.items _ _ c.loop-number-test.true c.loop-number.invariant c.in_ok-append_left.ensures c.left_at.ensures
