use Rattle.std.proofs.Common.{◌≡◌, ℕ, ◌<◌, get_or, false}
use Rattle.gn_paths.specs.Components.{is_slash}
use Rattle.gn_paths.proofs.components.piece_len.Given as goal

abbrev pub invariant-loop-i : goal.invariant-loop-i
invariant-loop-i l = (k : ℕ) → k < l.i → is_slash (get_or l.text k 0) ≡ false
