-- What labels are to name, and what is wrong with a label that an item has.
use Rattle.std.specs.Prelude.{List, Option, Bool}
use Rattle.gn_labels.specs.declared.label.Label.{Label}
use Rattle.gn_labels.specs.declared.pattern.Pattern.{Pattern}
use Rattle.gn_rows.specs.declared.kinds.ItemKind.{ItemKind}
use Rattle.gn_dependencies.specs.Shape.{Shape}
use Rattle.gn_rules.specs.declared.rule.Naming.{Naming}
use Rattle.gn_rules.specs.declared.rule.Naming.TheVariants as what
use Rattle.gn_rules.specs.declared.rule.Rule.{Rule}
use Rattle.gn_rules.specs.declared.rule.Rule.TheVariants as rules
use Rattle.gn_rules.specs.Rules.{names_target, names_config, names_pool, hides, is_for_tests, is_missing, is_foreign}

abbrev pub names : Naming → Option ItemKind → Bool
names what.Target kind = names_target kind
names what.Config kind = names_config kind
names what.Pool kind = names_pool kind

abbrev pub breaks : Rule → Shape → (Label → Option (List Pattern)) → (Label → Bool) → Label → Label → Bool
breaks rules.Missing g visibility testonly t d = is_missing g d
breaks (rules.Foreign naming) g visibility testonly t d = is_foreign (names naming) g d
breaks (rules.Hidden naming) g visibility testonly t d = hides (names naming) g visibility t d
breaks rules.ForTests g visibility testonly t d = is_for_tests g testonly d
