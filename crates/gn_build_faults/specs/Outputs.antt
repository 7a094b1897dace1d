-- Outputs that are made twice.
use Rattle.std.specs.Prelude.{ℕ, List, [], ◌∷◌, Option, Some, None, Result, Ok, Err, map, if◌then◌else◌}
use Rattle.std.specs.Borrow.{Bor}
use Rattle.std.specs.Ordering.{nat_cmp, is_lt}
use Rattle.std.specs.Cmp.Lexicographic.{slice_cmp}
use Rattle.gn_paths.specs.declared.error.PathFault.{PathFault}
use Rattle.gn_paths.specs.Resolve.{path_meant}
use Rattle.gn_labels.specs.declared.label.Label.{Label}
use Rattle.gn_items.specs.declared.item.Item.{Item}
use Rattle.gn_faults.specs.declared.code.Code.TheVariants.{SameOutput}
use Rattle.gn_faults.specs.declared.fault.Fault.{Fault}
use Rattle.gn_records.specs.Alone.{made_at}
use Rattle.gn_records.specs.Around.{Around}
use Rattle.gn_toolchains.specs.Frames.{has_text, with_text}
use Rattle.gn_build_faults.specs.Told.{fault_with}

-- what the file of a target makes, as the build directory sees it; nothing where there is no item
abbrev pub made_around : Around → Option Item → List (List ℕ)
made_around a None = []
made_around a (Some item) = made_at a item

-- the texts behind references
abbrev pub lent_texts : List (Bor (List ℕ)) → List (List ℕ)
lent_texts texts = map (λ (text : Bor (List ℕ)). text.now) texts

-- texts with more texts, each once
abbrev pub with_each : List (List ℕ) → List (List ℕ) → List (List ℕ)
with_each before [] = before
with_each before (p ∷ ps) = with_each (with_text before p) ps

-- those of some outputs that are made before, or stand at an earlier place too
abbrev pub made_twice : List (List ℕ) → List (List ℕ) → List (List ℕ)
made_twice before [] = []
made_twice before (p ∷ ps) = if has_text before p then p ∷ made_twice (with_text before p) ps else made_twice (with_text before p) ps

-- an output as it is shown: the path that the build directory sees so
abbrev pub shown_by : List ℕ → Result (List ℕ) PathFault → List ℕ
shown_by p (Ok path) = path
shown_by p (Err fault) = p

abbrev pub shown : (build : List ℕ) → List ℕ → List ℕ
shown build p = shown_by p (path_meant build p)

-- the first in the order of their bytes of two texts
abbrev pub lesser_shown : Option (List ℕ) → List ℕ → List ℕ
lesser_shown None p = p
lesser_shown (Some q) p = if is_lt (slice_cmp nat_cmp p q) then p else q

-- the first in the order of their bytes of outputs as they are shown, and of one that is shown already
abbrev pub least_shown : (build : List ℕ) → Option (List ℕ) → List (List ℕ) → Option (List ℕ)
least_shown build best [] = best
least_shown build best (p ∷ ps) = least_shown build (Some (lesser_shown best (shown build p))) ps

abbrev pub twice_told : List ℕ → List Item → Label → Option (List ℕ) → Option Fault
twice_told default items t None = None
twice_told default items t (Some p) = Some (fault_with default items t SameOutput (p ∷ []))

-- the least of a target's outputs that is made twice, where the targets before it make others
unfoldable pub output_fault : List ℕ → List Item → (build : List ℕ) → (before outputs : List (List ℕ)) → Label → Option Fault
output_fault default items build before outputs t = twice_told default items t (least_shown build None (made_twice before outputs))
