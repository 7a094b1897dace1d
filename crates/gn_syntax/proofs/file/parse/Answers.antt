use Rattle.std.proofs.Common.{Ok}
use Rattle.gn_grammar.specs.Start.{File}
use Rattle.gn_grammar.proofs.Shallow.{is_shallow}
use Rattle.gn_syntax.proofs.Whole.{is_tree}
use Rattle.gn_syntax.proofs.Readings.{reading_is_only, file_stops}
use Rattle.gn_syntax.proofs.file.parse.Goals as goal

pub returns-in-Ok-clause-read : goal.returns-in-Ok-clause-read
returns-in-Ok-clause-read c = reading_is_only c.args.bytes.now (Ok c.in-Ok.block)
    (is_tree c.args.bytes.now c.in-Ok.block (c.machine_is_right.ensures File c.args.bytes.now) c.in-Ok.ensures.reads c.in-Ok.ensures.tree)

pub returns-in-Err-clause-read : goal.returns-in-Err-clause-read
returns-in-Err-clause-read c = file_stops c.args.bytes.now c.error_of.result c.in-Err.stop c.error_of.ensures (c.machine_is_right.ensures File c.args.bytes.now) c.in-Err.ensures.reads

pub returns-in-Ok-clause-shallow : goal.returns-in-Ok-clause-shallow
returns-in-Ok-clause-shallow c small = is_shallow c.args.bytes.now c.in-Ok.block small
    (is_tree c.args.bytes.now c.in-Ok.block (c.machine_is_right.ensures File c.args.bytes.now) c.in-Ok.ensures.reads c.in-Ok.ensures.tree)
