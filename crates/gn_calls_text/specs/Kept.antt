-- Which strings a filter keeps, over patterns that are read already.
use Rattle.std.specs.Prelude.{ℕ, Bool, true, not, List}
use Rattle.std.specs.List.{list_any}
use Rattle.gn_calls_text.specs.declared.patterns.Part.{Part}
use Rattle.gn_calls_text.specs.declared.filters.Keep.{Keep}
use Rattle.gn_calls_text.specs.declared.filters.Keep.TheVariants.{Matching, Others}
use Rattle.gn_calls_text.specs.Patterns.{matches_parts, matches_some, matches_none}

abbrev pub matches_some_parts : List (List Part) → List ℕ → Bool
matches_some_parts lists text = list_any (λ parts. matches_parts parts true text) lists

abbrev pub keeps : Keep → List (List Part) → List ℕ → Bool
keeps Matching lists text = matches_some_parts lists text
keeps Others lists text = not (matches_some_parts lists text)

abbrev pub kept_by : Keep → List (List ℕ) → List ℕ → Bool
kept_by Matching = matches_some
kept_by Others = matches_none
