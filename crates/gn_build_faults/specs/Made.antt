-- What the targets of a build make.
use Rattle.std.specs.Prelude.{ℕ, List, [], ◌∷◌, Option, Some}
use Rattle.gn_labels.specs.declared.label.Label.{Label}
use Rattle.gn_items.specs.declared.item.Item.{Item}
use Rattle.gn_records.specs.Around.{Around}
use Rattle.gn_toolchains.specs.Toolchains.{Surroundings, around_of}
use Rattle.gn_build_faults.specs.Faults.{with_outputs}

-- these outputs and those of targets, each once, by what is known around the targets of each toolchain
abbrev pub outputs_among : List Item → (known : List ℕ → Option Around) → (before : List (List ℕ)) → List Label → List (List ℕ)
outputs_among items known before [] = before
outputs_among items known before (t ∷ ts) = outputs_among items known (with_outputs items (known t.toolchain) before t) ts

-- what these targets make, as the build directory sees it, by what never changes in a build and by the items of the build
unfoldable pub made_by : Surroundings → List Item → List Label → List (List ℕ)
made_by s items targets = outputs_among items (λ text. Some (around_of s items text)) [] targets
