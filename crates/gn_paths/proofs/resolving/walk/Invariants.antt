use Rattle.std.proofs.Common.{◌≡◌, ◌≤◌, length}
use Rattle.gn_paths.specs.Components.{pieces}
use Rattle.gn_paths.specs.Buffer.{buffer_walked}
use Rattle.gn_paths.specs.Reading.{is_clean}
use Rattle.gn_paths.proofs.resolving.walk.Given as goal

abbrev pub invariant-loop-n : goal.invariant-loop-n
invariant-loop-n l =
    (length l.rest ≤ length l.text) × (is_clean l.rest ≡ is_clean l.text) × (buffer_walked l.top l.buffer.items (pieces l.rest) ≡ buffer_walked l.top l.fn.buffer.items (pieces l.text))

abbrev pub decreases-loop-n : goal.decreases-loop-n
decreases-loop-n l = length l.rest
