use Rattle.std.proofs.Common.{◌≡◌, ◌≤◌, length, []}
use Rattle.std.specs.List.{filter}
use Rattle.gn_paths.specs.Components.{pieces}
use Rattle.gn_paths.specs.Resolve.{moves}
use Rattle.gn_labels.specs.Reading.{last_or}
use Rattle.gn_labels.proofs.label_reading.written_last.Given as goal

abbrev pub invariant-walk : goal.invariant-walk
invariant-walk l =
    (length l.rest ≤ length l.text) × (last_or l.last (filter moves (pieces l.rest)) ≡ last_or [] (filter moves (pieces l.text)))

abbrev pub decreases-walk : goal.decreases-walk
decreases-walk l = length l.rest
