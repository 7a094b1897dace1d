use Rattle.gn_perform.proofs.Evaluations.{stop_lacks, pause_lacks, again_lacks}
use Rattle.gn_perform.proofs.evaluating.lacks.Goals as goal

pub returns-in-Stopped : goal.returns-in-Stopped
returns-in-Stopped c = λ base key a needed kept read. stop_lacks c.args.need c.args.stop base key a needed kept read c.in-Stopped.asked c.in-Stopped.is

pub returns-in-Paused : goal.returns-in-Paused
returns-in-Paused c = λ base key a needed kept read. pause_lacks c.args.need c.args.stop base key a needed kept read c.in-Paused.rest c.in-Paused.is

pub returns-in-Again : goal.returns-in-Again
returns-in-Again c = λ base key a needed kept read. again_lacks c.args.need c.args.stop base key a needed kept read c.in-Again.tree c.in-Again.asked c.in-Again.is
