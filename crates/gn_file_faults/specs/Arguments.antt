-- Build arguments that are declared at two places: a fault at each place but the least one of a name.
use Rattle.std.specs.Prelude.{ℕ, false, List, [], ◌∷◌, Option, map}
use Rattle.gn_faults.specs.declared.code.Code.TheVariants.{DuplicateArgument}
use Rattle.gn_faults.specs.declared.fault.Fault.{Fault}
use Rattle.gn_items.specs.declared.declaration.Declaration.{Declaration}
use Rattle.gn_file_faults.specs.Uses.{Use, again_faults}
use Rattle.gn_file_faults.specs.Least.{least_of}

-- A declaration uses the name of its argument. Its toolchain and its number tell nothing: one place may declare an argument in several executions.
abbrev pub argument_use : List ℕ → Declaration → Use
argument_use toolchain d = record { name = d.name; toolchain = toolchain; place = d.place; number = 0; is_taken = false }

abbrev pub argument_faults : List Declaration → List Fault
argument_faults all = again_faults DuplicateArgument (map (argument_use []) all)

-- the least fault of a build argument that is declared twice, if there is one
unfoldable pub repeated_fault : List Declaration → Option Fault
repeated_fault all = least_of (argument_faults all)
