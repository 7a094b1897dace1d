use Rattle.std.proofs.Common.{◌≡◌, ◌+◌, ◌≤◌, not, length, take}
use Rattle.std.specs.List.{suffix_len}
use Rattle.gn_labels.specs.Reading.{is_colon}
use Rattle.gn_labels.proofs.toolchain_name.len_after_colon.Given as goal

abbrev pub invariant-loop-n : goal.invariant-loop-n
invariant-loop-n l =
    (l.n ≤ length l.text) × (l.n + suffix_len (λ b. not (is_colon b)) l.text ≡ length l.text + suffix_len (λ b. not (is_colon b)) (take l.n l.text))

abbrev pub decreases-loop-n : goal.decreases-loop-n
decreases-loop-n l = l.n
