use Rattle.std.proofs.Common.{◌≡◌, ℕ, ◌<◌, Some, get_or, drop, false}
use Rattle.std.specs.List.{before_first}
use Rattle.gn_paths.specs.Components.{is_slash}
use Rattle.gn_paths.specs.Reading.{is_clean, is_clean_from}
use Rattle.gn_paths.proofs.reading.clean_piece_len.Given as goal

abbrev pub invariant-loop-i : goal.invariant-loop-i
invariant-loop-i l =
    ((k : ℕ) → k < l.i → is_slash (get_or l.text k 0) ≡ false) × (is_clean_from (Some l.pending) (drop l.i l.text) ≡ is_clean (before_first is_slash l.text))
