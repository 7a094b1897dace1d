-- The first in label order.
use Rattle.std.specs.Prelude.{ℕ, List, Option, Some, None, if◌then◌else◌}
use Rattle.std.specs.List.{fold}
use Rattle.gn_labels.specs.declared.label.Label.{Label}
use Rattle.gn_labels.specs.Labels.{is_before}

-- the earlier in label order of two things that have labels, where there may be only the second: the first one where they have one label
abbrev pub earlier : {A : Type 0} → (label : A → Label) → (default : List ℕ) → Option A → A → Option A
earlier label default None x = Some x
earlier label default (Some y) x = if is_before default (label x) (label y) then Some x else Some y

abbrev pub with_one : {A : Type 0} → (label : A → Label) → (default : List ℕ) → Option A → Option A → Option A
with_one label default best None = best
with_one label default best (Some x) = earlier label default best x

-- the first in label order of things that have labels
abbrev pub least : {A : Type 0} → (label : A → Label) → (default : List ℕ) → List A → Option A
least label default xs = fold (earlier label default) None xs

-- the first in label order of labels
abbrev pub itself : Label → Label
itself label = label

abbrev pub least_label : (default : List ℕ) → List Label → Option Label
least_label default labels = least itself default labels
