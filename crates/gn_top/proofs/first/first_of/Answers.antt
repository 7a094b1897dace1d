use Rattle.std.proofs.Common.{ap}
use Rattle.gn_dotfile.specs.Names.{dotfile_state}
use Rattle.gn_top.specs.Stages.{first_with}
use Rattle.gn_top.proofs.first.first_of.Goals as goal

pub returns-in-Said : goal.returns-in-Said
returns-in-Said c = λ meaning is. ap (first_with (dotfile_state c.args.dotfile, c.args.dotfile.prints)) (rw c.in-Said.is at is)

pub returns-in-Failed : goal.returns-in-Failed
returns-in-Failed c = λ meaning is. ap (first_with (dotfile_state c.args.dotfile, c.args.dotfile.prints)) (rw c.in-Failed.is at is)
