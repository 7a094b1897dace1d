-- What the closure captures that threads call for places of targets.
use mathlib.Core.List.{List, [], ◌∷◌}
use denote.RattleType.{RattleType}
use denote.Ref.{NamedLft}
use denote.Struct.Field.{shr_ref_field, shr_slice_field}
use Rattle.std.specs.contracts.alloc.Global as Global
use Rattle.gn_labels.specs.contracts.label.Label as Label
use Rattle.gn_labelled.specs.contracts.graph.ItemGraph as ItemGraph
use Rattle.gn_toolchains.specs.contracts.frames.Frames as Frames
use Rattle.gn_resolve.specs.contracts.table.Resolved as Resolved

-- references to the allocator, the frames of toolchains, the graph of items with what is kept of its targets, and targets
abbrev pub captures : (alloc frames lent graph items targets : NamedLft) → List RattleType
captures alloc frames lent graph items targets =
    (shr_ref_field alloc Global.the_row tt).row
    ∷ (shr_ref_field frames (Frames.the_row lent) tt).row
    ∷ (shr_ref_field graph (ItemGraph.the_row items Resolved.the_row) tt).row
    ∷ (shr_slice_field targets Label.the_row tt).row
    ∷ []
