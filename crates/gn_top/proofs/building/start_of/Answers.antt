use Rattle.std.proofs.Common.{refl}
use Rattle.gn_top.proofs.building.start_of.Goals as goal

pub returns : goal.returns
returns c = rw c.in_ok-setup.ensures (rw c.in_ok-around.ensures (record { view = refl; base = refl; read = refl }))
