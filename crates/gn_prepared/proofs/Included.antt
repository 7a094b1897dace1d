-- What is filed, and the content of one more path: among what is filed later; and the base where nothing is filed for units.
use Rattle.std.proofs.Common.{◌≡◌, ◌⊎◌, inl, inr, Some, Bool, true, false, [], if◌then◌else◌, refl, ◌∙◌, ap, subst}
use Rattle.std.specs.Str.{bytes_eq}
use Rattle.gn_closure.specs.Reach.{Setup}
use Rattle.gn_core.specs.Keys.{Read, found, early, usual}
use Rattle.gn_core.proofs.Puts.{put_some}
use Rattle.gn_projects.specs.Bases.{left_in, left_at, other_base, usual_behind}
use Rattle.gn_prepared.specs.Contents.{IsIncludedLater, KeepsNoUnits, BasesStand}

pub included_later : IsIncludedLater
included_later filed path content later part there k v has = by (put_some filed (Read path) (found content) k v has)
  where
    by : ((Read path ≡ k) × (found content ≡ v)) ⊎ (filed k ≡ Some v) → later k ≡ Some v
    by (inl same) = subst (λ q. later q ≡ Some v) same.0 (there ∙ ap Some same.1)
    by (inr had) = part k v had

pub keeps_no_units : KeepsNoUnits
keeps_no_units part path content none = none

pub bases_stand : BasesStand
bases_stand start part (early toolchain) none = by (bytes_eq toolchain [])
  where
    by : (first : Bool) → (if first then start else other_base start part toolchain (left_at part (Setup []))) ≡ start
    by true = refl
    by false = ap (λ answer. other_base start part toolchain (left_in answer)) (none (Setup []))
bases_stand start part (usual toolchain) none = ap (λ answer. usual_behind start part toolchain (left_in answer)) (none (Setup []))
