-- The first in label order of the labels that patterns match.
use Rattle.std.specs.Prelude.{◌≡◌, ℕ, ◌<◌, List, Option, Some, None, slice_get, true, false}
use Rattle.gn_labels.specs.declared.label.Label.{Label}
use Rattle.gn_labels.specs.declared.pattern.Pattern.{Pattern}
use Rattle.gn_labels.specs.Labels.{is_before}
use Rattle.gn_dependencies.specs.Lists.{has}
use Rattle.gn_rules.specs.Rules.{is_matched}

-- a label stands at a place, is matched, and none of those that are matched before a place comes before it
pub record IsLeast (default : List ℕ) (patterns : List Pattern) (labels : List Label) (end : ℕ) (place : ℕ) : Type 0 where
  pub label : Label
  pub inside : place < end
  pub at : slice_get labels place ≡ Some label
  pub matched : is_matched patterns label ≡ true
  pub least : (k : ℕ) (q : Label) → k < end → slice_get labels k ≡ Some q → is_matched patterns q ≡ true → is_before default q label ≡ false

-- the place of the first of those that are matched before a place
abbrev pub IsLeastMatched : List ℕ → List Pattern → List Label → ℕ → Option ℕ → Type 0
IsLeastMatched default patterns labels end None = (k : ℕ) (q : Label) → k < end → slice_get labels k ≡ Some q → is_matched patterns q ≡ false
IsLeastMatched default patterns labels end (Some place) = IsLeast default patterns labels end place

-- the first of those of the labels that are matched
abbrev pub IsLeastIn : List ℕ → List Pattern → List Label → Option Label → Type 0
IsLeastIn default patterns labels None = (q : Label) → has labels q ≡ true → is_matched patterns q ≡ false
IsLeastIn default patterns labels (Some x) = (has labels x ≡ true) × ((is_matched patterns x ≡ true) × ((q : Label) → has labels q ≡ true → is_matched patterns q ≡ true → is_before default q x ≡ false))
