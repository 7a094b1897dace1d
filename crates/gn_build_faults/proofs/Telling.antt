-- The fault that is told by what targets have by themselves is the fault that is told of them.
use Rattle.std.proofs.Common.{◌≡◌, ℕ, List, [], ◌∷◌, Option, Some, None, map, refl, ◌∙◌, ap}
use Rattle.gn_labels.specs.declared.label.Label.{Label}
use Rattle.gn_items.specs.declared.item.Item.{Item}
use Rattle.gn_records.specs.Around.{Around}
use Rattle.gn_faults.specs.declared.fault.Fault.{Fault}
use Rattle.gn_build_faults.specs.Faults.{first_of, fault_at, with_outputs, fault_among}
use Rattle.gn_build_faults.specs.Examined.{examined_at, examined_of, fault_with_outputs, with_examined, fault_of_examined}

module _ (default : List ℕ) (items : List Item) where
  here : (a : Option Around) (before : List (List ℕ)) (t : Label) → fault_with_outputs default items a before (examined_at default items a t) ≡ fault_at default items a before t
  here None before t = refl
  here (Some a) before t = refl

  onward : (a : Option Around) (before : List (List ℕ)) (t : Label) → with_examined a before (examined_at default items a t) ≡ with_outputs items a before t
  onward None before t = refl
  onward (Some a) before t = refl

  target_of : (a : Option Around) (t : Label) → (examined_at default items a t).target ≡ t
  target_of None t = refl
  target_of (Some a) t = refl

  module _ (known : List ℕ → Option Around) where
    pub examined_tell : (before : List (List ℕ)) (ts : List Label) → fault_of_examined default items known before (map (examined_of default items known) ts) ≡ fault_among default items known before ts
    examined_tell before [] = refl
    examined_tell before (t ∷ ts) =
        let x = examined_of default items known t in
        let rest = map (examined_of default items known) ts in
        ap (λ (u : Label). first_of (fault_with_outputs default items (known u.toolchain) before x) (fault_of_examined default items known (with_examined (known u.toolchain) before x) rest)) (target_of (known t.toolchain) t)
        ∙ ap (λ (f : Option Fault). first_of f (fault_of_examined default items known (with_examined (known t.toolchain) before x) rest)) (here (known t.toolchain) before t)
        ∙ ap (λ (b : List (List ℕ)). first_of (fault_at default items (known t.toolchain) before t) (fault_of_examined default items known b rest)) (onward (known t.toolchain) before t)
        ∙ ap (first_of (fault_at default items (known t.toolchain) before t)) (examined_tell (with_outputs items (known t.toolchain) before t) ts)
