-- What a walk meets.
use Rattle.std.specs.Prelude.{◌≡◌, List, Bool, true}
use Rattle.gn_labels.specs.declared.label.Label.{Label}
use Rattle.gn_dependencies.specs.Lists.{has}

-- A walk from a target meets those that it looks at next to it, and next to each that it has met and goes through
pub data IsMet (next : Label → List Label) (meets opens : Label → Bool) (t : Label) : Label → Type 0 where
  first : (d : Label) → has (next t) d ≡ true → meets d ≡ true → IsMet next meets opens t d
  onward : (c d : Label) → IsMet next meets opens t c → opens c ≡ true → has (next c) d ≡ true → meets d ≡ true → IsMet next meets opens t d
