use Rattle.std.proofs.Common.{Ok}
use Rattle.gn_grammar.specs.Start.{Expression}
use Rattle.gn_grammar.proofs.Shallow.{is_shallow_expr}
use Rattle.gn_syntax.proofs.Whole.{is_expr}
use Rattle.gn_syntax.proofs.Readings.{expr_reading_is_only, expr_stops}
use Rattle.gn_syntax.proofs.file.parse_expr.Goals as goal

pub returns-in-Ok-clause-read : goal.returns-in-Ok-clause-read
returns-in-Ok-clause-read c = expr_reading_is_only c.args.bytes.now (Ok c.in-Ok.expr)
    (is_expr c.args.bytes.now c.in-Ok.expr (c.machine_is_right.ensures Expression c.args.bytes.now) c.in-Ok.ensures.reads c.in-Ok.ensures.tree)

pub returns-in-Err-clause-read : goal.returns-in-Err-clause-read
returns-in-Err-clause-read c = expr_stops c.args.bytes.now c.error_of.result c.in-Err.stop c.error_of.ensures (c.machine_is_right.ensures Expression c.args.bytes.now) c.in-Err.ensures.reads

pub returns-in-Ok-clause-shallow : goal.returns-in-Ok-clause-shallow
returns-in-Ok-clause-shallow c small = is_shallow_expr c.args.bytes.now c.in-Ok.expr small
    (is_expr c.args.bytes.now c.in-Ok.expr (c.machine_is_right.ensures Expression c.args.bytes.now) c.in-Ok.ensures.reads c.in-Ok.ensures.tree)
