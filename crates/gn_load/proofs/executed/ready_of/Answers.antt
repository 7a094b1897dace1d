use Rattle.std.proofs.Common.{refl}
use Rattle.gn_load.proofs.executed.ready_of.Goals as goal

pub returns-in-Some : goal.returns-in-Some
returns-in-Some c = record { key = c.in-Some.ensures; file = refl; content = refl; is = refl }
