-- The labels of targets, as they are listed.
use Rattle.std.specs.Prelude.{ℕ, Bool, true, List, [], Option, Some, None, if◌then◌else◌}
use Rattle.std.specs.List.{flat_map}
use Rattle.gn_labels.specs.declared.label.Label.{Label}
use Rattle.gn_labels.specs.Labels.{printed}
use Rattle.gn_labels.specs.Patterns.{matches}
use Rattle.gn_labels.specs.declared.pattern.Pattern.{Pattern}
use Rattle.gn_top.specs.Texts.{line}

-- a label and a newline; the default toolchain isn't shown
abbrev pub label_line : List ℕ → Label → List ℕ
label_line default label = line (printed default label)

-- whether a label is listed: where there is a pattern, it has to match
abbrev pub is_listed : Option Pattern → Label → Bool
is_listed None label = true
is_listed (Some pattern) label = matches pattern label

abbrev pub listed_line : List ℕ → Option Pattern → Label → List ℕ
listed_line default pattern label = if is_listed pattern label then label_line default label else []

-- those of these labels that are listed, one a line, in their order
unfoldable pub listing : List ℕ → Option Pattern → List Label → List ℕ
listing default pattern labels = flat_map (listed_line default pattern) labels
