use Rattle.std.proofs.Common.{◌≡◌, ◌+◌, ◌≤◌, length, take}
use Rattle.std.specs.List.{suffix_len}
use Rattle.gn_paths.specs.Components.{is_slash}
use Rattle.gn_paths.proofs.directories.final_slash_count.Given as goal

abbrev pub invariant-loop-n : goal.invariant-loop-n
invariant-loop-n l =
    (l.n ≤ length l.text) × (l.n + suffix_len is_slash l.text ≡ length l.text + suffix_len is_slash (take l.n l.text))

abbrev pub decreases-loop-n : goal.decreases-loop-n
decreases-loop-n l = l.n
