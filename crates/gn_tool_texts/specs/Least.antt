-- The least of the faults of texts.
use Rattle.std.specs.Prelude.{Bool, true, false, List, Option, None, Some, if◌then◌else◌}
use Rattle.std.specs.List.{list_any}
use Rattle.gn_paths.specs.declared.error.PathFault.{PathFault}
use Rattle.gn_paths.specs.declared.error.PathFault.TheVariants.{AboveRoot, BadPath}
use Rattle.gn_faults.specs.declared.code.Code.{Code}
use Rattle.gn_faults.specs.declared.code.Code.TheVariants as codes

-- whether it is this fault
abbrev pub is_above : PathFault → Bool
is_above AboveRoot = true
is_above BadPath = false

abbrev pub is_bad : PathFault → Bool
is_bad AboveRoot = false
is_bad BadPath = true

-- the least of some faults by the numbers of their codes, where there is one
unfoldable pub least : List PathFault → Option PathFault
least faults = if list_any is_above faults then Some AboveRoot else (if list_any is_bad faults then Some BadPath else None)

-- the lesser of two faults, where there is one
abbrev pub lesser : Option PathFault → Option PathFault → Option PathFault
lesser None other = other
lesser (Some AboveRoot) other = Some AboveRoot
lesser (Some BadPath) None = Some BadPath
lesser (Some BadPath) (Some other) = Some other

-- the code of a fault
abbrev pub path_code : PathFault → Code
path_code AboveRoot = codes.AboveRoot
path_code BadPath = codes.BadPath
