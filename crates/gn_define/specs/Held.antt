-- What a field of an item stands for.
use Rattle.std.specs.Prelude.{ℕ, ℤ, List, Bool}
use Rattle.gn_labels.specs.declared.label.Label.{Label}
use Rattle.gn_labels.specs.declared.pattern.Pattern.{Pattern}
use Rattle.gn_substs.specs.declared.subst.Subst.{Subst}
use Rattle.gn_values.specs.Val.{Val}
use Rattle.gn_values.specs.View.{val_of}
use Rattle.gn_define.specs.declared.field.Field.{Field}
use Rattle.gn_define.specs.declared.field.Field.TheVariants as fields

-- what a variable holds
pub data Held : Type 0 where
  boolean : Bool → Held
  count : ℤ → Held
  texts : List (List ℕ) → Held
  paths : List (List ℕ) → Held
  labels : List Label → Held
  patterns : List Pattern → Held
  substs : List Subst → Held
  scope : Val → Held
  unused : Held

abbrev pub held_of : Field → Held
held_of (fields.Boolean b) = boolean b
held_of (fields.Count n) = count n
held_of (fields.Texts ts) = texts ts.items
held_of (fields.Paths ps) = paths ps.items
held_of (fields.Labels ls) = labels ls.items
held_of (fields.Patterns ps) = patterns ps.items
held_of (fields.Substs ss) = substs ss.items
held_of (fields.Scope v) = scope (val_of v)
held_of fields.Unused = unused
