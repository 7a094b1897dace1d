use Prim.Native.Nat.{◌+◌, ◌*◌}
use Rattle.gn_beside.proofs.beside.+call_beside.Given as goal

abbrev pub decreases-call_beside : goal.decreases-call_beside
decreases-call_beside g l = 2 * l.threads

abbrev pub decreases-rest : goal.decreases-rest
decreases-rest g l = 2 * l.fewer + 1
