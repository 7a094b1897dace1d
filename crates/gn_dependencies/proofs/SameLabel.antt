-- The test of the code for equal labels is that of the definitions.
use Rattle.std.proofs.Common.{◌≡◌, List, Bool, refl, subst}
use Rattle.std.specs.List.{IsDistinct}
use Rattle.gn_labels.specs.declared.label.Label.{Label}
use Rattle.gn_labels.specs.contracts.label.LabelPartialEq.TheImpl.{eq-value}
use Rattle.gn_dependencies.specs.Lists.{same_label}

pub tie : (q k : Label) → eq-value.it q k ≡ same_label q k
unfolding same_label
tie q k = refl

-- a set of labels has none twice
pub once : (xs : List Label) → IsDistinct eq-value.it xs → IsDistinct same_label xs
once xs d = subst (λ (same : Label → Label → Bool). IsDistinct same xs) (λ i a b. tie a b i) d
