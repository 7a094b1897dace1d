-- The text by which labels name the toolchain that an item defines.
use Rattle.std.proofs.Common.{◌≡◌, ℕ, List, [], ◌∷◌, ◌++◌, Bool, if◌then◌else◌, ◌∙◌, ap}
use Rattle.std.proofs.lemmas.List.{append-nil}
use Rattle.gn_basics.proofs.Texts.{bytes_eq-itself}
use Rattle.gn_labels.specs.declared.label.Label.{Label}
use Rattle.gn_labels.specs.Labels.{spelling, printed}

-- a label as it is printed under its own toolchain
pub printed_at_home : (label : Label) → printed label.toolchain label ≡ spelling label.dir label.name
printed_at_home label =
    ap (λ (b : Bool). spelling label.dir label.name ++ (if b then [] else 40 ∷ (label.toolchain ++ 41 ∷ []))) (bytes_eq-itself label.toolchain) ∙ append-nil (spelling label.dir label.name)
