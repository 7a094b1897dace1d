-- The least of several faults.
use Rattle.std.specs.Prelude.{List, [], ◌∷◌, Option, Some, None, if◌then◌else◌}
use Rattle.gn_faults.specs.declared.fault.Fault.{Fault}
use Rattle.gn_faults.specs.Order.{is_before}

-- the lesser of a fault and one that may have been found before
abbrev pub lesser : Option Fault → Fault → Fault
lesser None f = f
lesser (Some found) f = if is_before f found then f else found

-- the least of these faults and one that may have been found before
abbrev pub least_from : Option Fault → List Fault → Option Fault
least_from found [] = found
least_from found (f ∷ fs) = least_from (Some (lesser found f)) fs

-- the least of these faults, if there is one
abbrev pub least_of : List Fault → Option Fault
least_of faults = least_from None faults
