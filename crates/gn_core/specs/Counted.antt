-- Whether a build exceeds a limit, as a function of the meanings of all keys.
use Rattle.std.specs.Prelude.{◌≡◌, ℕ, ltb, List, [], ◌∷◌, length, ◌↔◌, Bool, true, not, ◌||◌}
use Rattle.std.specs.List.{flat_map, list_any, filter}
use Rattle.gn_runs.specs.Runs.{Question, import_of}
use Rattle.gn_imports.specs.Asked.{all_asked, contents_asked, imports_asked, in_path_order}
use Rattle.gn_closure.specs.Reach.{Unit_key, Is_reached}
use Rattle.gn_closure.specs.Ground.{Step, Holding}
use Rattle.gn_closure.specs.Computed.{all_facts, is_too_large}
use Rattle.gn_core.specs.Keys.{Layer, Unit_of, layer_of, units}
use Rattle.gn_core.specs.Worlds.{World, project, all_meanings}
use Rattle.gn_core.specs.Layered.{IsLayered}
use Rattle.gn_core.specs.Machine.{import_limit, read_limit, asked_in, Exceeds}

-- the imports that an import needs, itself among them, in the order of their paths
unfoldable pub imports_needed : World → Layer → List ℕ → List (List ℕ)
imports_needed w l path = in_path_order (imports_asked (all_asked (project w (all_meanings w) l) (import_of path ∷ [])))

-- what a unit asks, directly or through imports
unfoldable pub unit_asks : World → Unit_key → List Question
unit_asks w unit = all_asked (project w (all_meanings w) (layer_of unit)) (asked_in (all_meanings w (Unit_of unit)))

-- the units that are reached
abbrev pub unit_in_step : Step → List Unit_key
unit_in_step (Holding (Is_reached unit)) = unit ∷ []
unit_in_step _ = []

unfoldable pub units_reached : World → List Unit_key
units_reached w = flat_map unit_in_step (all_facts w.home (units (all_meanings w)))

-- whether an import that a unit asks for needs too many
abbrev pub is_large : World → Layer → List ℕ → Bool
is_large w l path = ltb import_limit (length (imports_needed w l path))

abbrev pub has_large_import : World → Unit_key → Bool
has_large_import w unit = list_any (is_large w (layer_of unit)) (imports_asked (unit_asks w unit))

-- the files that reached units read and that the setup doesn't know, in the order of their paths
abbrev pub files_of : World → Unit_key → List (List ℕ)
files_of w unit = contents_asked (unit_asks w unit)

unfoldable pub files_read : World → (List ℕ → Bool) → List (List ℕ)
files_read w known = in_path_order (filter (λ path. not (known path)) (flat_map (files_of w) (units_reached w)))

abbrev pub exceeds_limits : World → (List ℕ → Bool) → Bool
exceeds_limits w known =
    is_too_large w.home (units (all_meanings w)) || (list_any (has_large_import w) (units_reached w) || ltb read_limit (length (files_read w known)))

-- what is computed is whether the build exceeds a limit
abbrev pub LimitsAreComputed : Type 0
LimitsAreComputed = (w : World) → IsLayered w → (known : List ℕ → Bool) → (exceeds_limits w known ≡ true) ↔ Exceeds w known (all_meanings w)
