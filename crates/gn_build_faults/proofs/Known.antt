-- What is known around the targets of toolchains that have frames.
use Rattle.std.proofs.Common.{◌≡◌, ℕ, zero, suc, List, [], ◌∷◌, Option, Some, slice_get, refl, ◌∙◌, ap}
use Rattle.gn_labels.specs.declared.label.Label.{Label}
use Rattle.gn_items.specs.declared.item.Item.{Item}
use Rattle.gn_records.specs.Around.{Around}
use Rattle.gn_toolchains.specs.declared.frames.Frames.{Frames}
use Rattle.gn_toolchains.specs.Toolchains.{Surroundings, around_of}
use Rattle.gn_toolchains.specs.Frames.{known_of, IsOver}
use Rattle.gn_toolchains.specs.Laws.{is_around, its_toolchain_is_there}
use Rattle.gn_build_faults.specs.Faults.{first_of, fault_at, with_outputs, fault_among, target_fault}
use Rattle.gn_build_faults.specs.Made.{outputs_among, made_by}

-- the same is known of the toolchains of all these targets
abbrev KnowSame : (List ℕ → Option Around) → (List ℕ → Option Around) → List Label → Type 0
KnowSame known other ts = (k : ℕ) (t : Label) → slice_get ts k ≡ Some t → known t.toolchain ≡ other t.toolchain

same_told : (default : List ℕ) (items : List Item) (known other : List ℕ → Option Around) (before : List (List ℕ)) (ts : List Label) → KnowSame known other ts
    → fault_among default items known before ts ≡ fault_among default items other before ts
same_told default items known other before [] same = refl
same_told default items known other before (t ∷ ts) same =
    let here = same zero t refl in
    ap (λ (a : Option Around). first_of (fault_at default items a before t) (fault_among default items known (with_outputs items a before t) ts)) here
    ∙ ap (first_of (fault_at default items (other t.toolchain) before t))
    (same_told default items known other (with_outputs items (other t.toolchain) before t) ts (λ k u e. same (suc k) u e))

pub same_among : (s : Surroundings) (items : List Item) (ts : List Label) (frames : Frames) → IsOver s items ts frames
    → fault_among s.default items (known_of frames) [] ts ≡ fault_among s.default items (λ text. Some (around_of s items text)) [] ts
same_among s items ts frames over =
    same_told s.default items (known_of frames) (λ text. Some (around_of s items text)) [] ts
    (λ k t e. is_around s items ts frames over t.toolchain (its_toolchain_is_there s.default ts k t e))

-- so what is told by frames of these toolchains, and of items that are known by another word, is the fault
pub told_of : (s : Surroundings) (items indexed : List Item) (ts : List Label) (frames : Frames) → indexed ≡ items → IsOver s items ts frames
    → fault_among s.default indexed (known_of frames) [] ts ≡ target_fault s items ts
unfolding target_fault
told_of s items indexed ts frames e over = ap (λ (z : List Item). fault_among s.default z (known_of frames) [] ts) e ∙ same_among s items ts frames over

-- What targets make by frames of their toolchains

same_made : (items : List Item) (known other : List ℕ → Option Around) (before : List (List ℕ)) (ts : List Label) → KnowSame known other ts
    → outputs_among items known before ts ≡ outputs_among items other before ts
same_made items known other before [] same = refl
same_made items known other before (t ∷ ts) same =
    ap (λ (a : Option Around). outputs_among items known (with_outputs items a before t) ts) (same zero t refl)
    ∙ same_made items known other (with_outputs items (other t.toolchain) before t) ts (λ k u e. same (suc k) u e)

pub made_of : (s : Surroundings) (items indexed : List Item) (ts : List Label) (frames : Frames) → indexed ≡ items → IsOver s items ts frames
    → outputs_among indexed (known_of frames) [] ts ≡ made_by s items ts
unfolding made_by
made_of s items indexed ts frames e over =
    ap (λ (z : List Item). outputs_among z (known_of frames) [] ts) e
    ∙ same_made items (known_of frames) (λ text. Some (around_of s items text)) [] ts
    (λ k t at. is_around s items ts frames over t.toolchain (its_toolchain_is_there s.default ts k t at))
