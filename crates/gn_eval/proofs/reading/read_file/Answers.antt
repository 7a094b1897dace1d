use Rattle.std.proofs.Common.{map}
use Rattle.gn_values.specs.View.{val_of}
use Rattle.gn_meaning.specs.Contents.{reading_runs}
use Rattle.gn_calls_plain.specs.Contents.{read_view}
use Rattle.gn_eval.proofs.Passed.{step_failed}
use Rattle.gn_eval.proofs.reading.read_file.Goals as goal

pub returns-in_err-reading-clause-read : goal.returns-in_err-reading-clause-read
returns-in_err-reading-clause-read g c =
    step_failed read_view (g.L.Library.state c.args.library.now) c.in_err-reading.field-0.0 c.from_residual.result c.args.env.now c.args.out.now
    (λ a. reading_runs a (map val_of c.args.values.now) c.args.nesting c.args.call.now c.args.env.now c.args.out.now) c.from_residual.ensures.1
    (λ a. c.in_err-reading.ensures a c.args.out.now)
