-- A default toolchain that isn't defined.
use Rattle.std.specs.Prelude.{ℕ, Bool, List, [], ◌∷◌, Option, Some, None, if◌then◌else◌}
use Rattle.gn_labels.specs.Labels.{spelling}
use Rattle.gn_faults.specs.declared.code.Code.TheVariants.{Unresolved}
use Rattle.gn_faults.specs.declared.fault.Fault.{Fault}
use Rattle.gn_faults.specs.declared.stage.Stage.TheVariants.{Graph}
use Rattle.gn_items.specs.declared.default_toolchain.DefaultToolchain.{DefaultToolchain}

-- The fault stands at the call that names the default toolchain. Its details are the path of the build configuration, in which the call stands, and the
-- label that is named, which is one under the default toolchain itself, and so is printed without a toolchain.
abbrev pub default_fault : DefaultToolchain → Fault
default_fault d =
    record { stage = Graph; place = Some d.place; toolchain = []; code = Unresolved; detail = d.place.file ∷ spelling d.label.dir d.label.name ∷ [] }

-- the fault of a default toolchain whose label is that of no toolchain: no item has it, or one of another kind
abbrev pub default_faults : Option DefaultToolchain → Bool → List Fault
default_faults None is_toolchain = []
default_faults (Some d) is_toolchain = if is_toolchain then [] else default_fault d ∷ []
