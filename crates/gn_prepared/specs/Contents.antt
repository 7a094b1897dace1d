-- What is filed, and the content of one more path.
use Rattle.std.specs.Prelude.{◌≡◌, ℕ, List, Some}
use Rattle.gn_executions.specs.Base.{BaseState}
use Rattle.gn_runs.specs.Runs.{Content}
use Rattle.gn_core.specs.Keys.{Layer, Read, found, put, Filed}
use Rattle.gn_core.specs.Layered.{IsPart}
use Rattle.gn_projects.specs.Bases.{base_of_layer}
use Rattle.gn_prepared.specs.Copies.{HasNoUnits}

-- this is there at the path, whatever is filed for it
abbrev pub with_content : Filed → List ℕ → Content → Filed
with_content filed path content = put filed (Read path) (Some (found content))

-- what is filed later includes what was filed with that content, where it has that content itself
abbrev pub IsIncludedLater : Type 0
IsIncludedLater = (filed : Filed) (path : List ℕ) (content : Content) (later : Filed) → IsPart filed later → later (Read path) ≡ Some (found content) → IsPart (with_content filed path content) later

-- with that content nothing more is filed for units
abbrev pub KeepsNoUnits : Type 0
KeepsNoUnits = (part : Filed) (path : List ℕ) (content : Content) → HasNoUnits part → HasNoUnits (with_content part path content)

-- where nothing is filed for units, the base of each layer is the one at the start
abbrev pub BasesStand : Type 0
BasesStand = (start : BaseState) (part : Filed) (l : Layer) → HasNoUnits part → base_of_layer start part l ≡ start
