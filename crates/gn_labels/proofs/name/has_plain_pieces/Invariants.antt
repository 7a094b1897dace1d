use Rattle.std.proofs.Common.{◌≡◌, ◌≤◌, length}
use Rattle.std.specs.List.{list_all}
use Rattle.gn_paths.specs.Components.{pieces}
use Rattle.gn_paths.specs.Directory.{leads_down}
use Rattle.gn_labels.proofs.name.has_plain_pieces.Given as goal

abbrev pub invariant-loop-rest : goal.invariant-loop-rest
invariant-loop-rest l =
    (length l.rest ≤ length l.text) × (list_all leads_down (pieces l.rest) ≡ list_all leads_down (pieces l.text))

abbrev pub decreases-loop-rest : goal.decreases-loop-rest
decreases-loop-rest l = length l.rest
