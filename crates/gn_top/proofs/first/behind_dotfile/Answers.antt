use Rattle.gn_top.specs.Stages.{arguments_paths}
use Rattle.gn_load.specs.Turns.{known_paths}
use Rattle.gn_top.specs.Building.{request_view}
use Rattle.gn_top.proofs.PartReads.{new_ok, new_stops}
use Rattle.gn_top.proofs.first.behind_dotfile.Goals as goal

pub returns-clause-meaning : goal.returns-clause-meaning
returns-clause-meaning g c = λ tree told agrees. c.first_of.ensures _ (c.in_ok-end.ensures.meaning tree told agrees)

pub returns-clause-reads : goal.returns-clause-reads
returns-clause-reads g c =
    new_ok _ _ (arguments_paths (request_view c.args.request.now)) (known_paths c.args.read.now.entries) (g.S.Source.state c.args.source.now) (g.S.Source.state c.arguments_in.new.source) c.in_ok-end.ensures.reads

pub returns-in_err-end-clause-reads : goal.returns-in_err-end-clause-reads
returns-in_err-end-clause-reads g c =
    new_stops _ _ (arguments_paths (request_view c.args.request.now)) (known_paths c.args.read.now.entries) (g.S.Source.state c.args.source.now) (g.S.Source.state c.arguments_in.new.source) c.from_residual.ensures.1 c.in_err-end.ensures.reads
