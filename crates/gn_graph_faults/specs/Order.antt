-- Labels in label order.
use Rattle.std.specs.Prelude.{◌≡◌, ℕ, List}
use Rattle.std.specs.List.Sorted.{IsStrictlySortedBy}
use Rattle.gn_labels.specs.declared.label.Label.{Label}
use Rattle.gn_labels.specs.Labels.{label_order}
use Rattle.gn_dependencies.specs.Lists.{has}

-- the second list has the labels of the first, in label order and each once
pub record AreInOrder (default : List ℕ) (xs ys : List Label) : Type 0 where
  pub rises : IsStrictlySortedBy (label_order default) ys
  pub same : (q : Label) → has ys q ≡ has xs q
