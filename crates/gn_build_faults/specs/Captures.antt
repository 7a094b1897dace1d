-- What the closures capture that threads call for places of targets, items and labels.
use mathlib.Core.List.{List, [], ◌∷◌}
use denote.RattleType.{RattleType}
use denote.Ref.{NamedLft}
use denote.Struct.Field.{shr_ref_field, shr_slice_field}
use Rattle.std.specs.contracts.alloc.Global as Global
use Rattle.gn_paths.specs.contracts.text.Text as Text
use Rattle.gn_labels.specs.contracts.label.Label as Label
use Rattle.gn_labelled.specs.contracts.index.ItemIndex as ItemIndex
use Rattle.gn_toolchains.specs.contracts.frames.Frames as Frames
use Rattle.gn_build_faults.specs.contracts.settling.SettledItems as SettledItems

-- references to the allocator and the items
abbrev pub linking : (alloc items lent : NamedLft) → List RattleType
linking alloc items lent = (shr_ref_field alloc Global.the_row tt).row ∷ (shr_ref_field items (ItemIndex.the_row lent) tt).row ∷ []

-- references to the items and to labels
abbrev pub finding : (items lent labels : NamedLft) → List RattleType
finding items lent labels = (shr_ref_field items (ItemIndex.the_row lent) tt).row ∷ (shr_slice_field labels Label.the_row tt).row ∷ []

-- references to the allocator, the default toolchain, the items, which of them reach no cycle, the frames of toolchains, and targets
abbrev pub examining : (alloc default items lent settled frames framed targets : NamedLft) → List RattleType
examining alloc default items lent settled frames framed targets =
    (shr_ref_field alloc Global.the_row tt).row
    ∷ (shr_ref_field default Text.the_row tt).row
    ∷ (shr_ref_field items (ItemIndex.the_row lent) tt).row
    ∷ (shr_ref_field settled SettledItems.the_row tt).row
    ∷ (shr_ref_field frames (Frames.the_row framed) tt).row
    ∷ (shr_slice_field targets Label.the_row tt).row
    ∷ []
