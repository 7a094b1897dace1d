-- What several lists or scopes have at once.
use Rattle.std.specs.Prelude.{List, [], None, Some}
use Rattle.gn_values.specs.declared.shared.Shared.{Shared}

-- the values, in order
abbrev pub parts : {X : Type 0} → Shared X → List X
parts it = elim it.owned [ None ↦ [] | Some shared ↦ shared.value.items ]
