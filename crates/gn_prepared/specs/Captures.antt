-- What the closure captures that threads call for the answers of build files.
use mathlib.Core.List.{List, [], ◌∷◌}
use denote.RattleType.{RattleType}
use denote.Ref.{NamedLft}
use denote.Struct.Field.{shr_ref_field, shr_slice_field}
use Rattle.std.specs.contracts.alloc.Global as Global
use Rattle.gn_evaluation_base.specs.contracts.base.Base as Base
use Rattle.gn_prepared.specs.contracts.copies.Copies as Copies
use Rattle.gn_prepared.specs.contracts.wanted.Wanted as Wanted

-- references to the allocator, the base, the copies and the build files
abbrev pub captures : (alloc base copies wanted : NamedLft) → List RattleType
captures alloc base copies wanted =
    (shr_ref_field alloc Global.the_row tt).row
    ∷ (shr_ref_field base Base.the_row tt).row
    ∷ (shr_ref_field copies Copies.the_row tt).row
    ∷ (shr_slice_field wanted Wanted.the_row tt).row
    ∷ []
