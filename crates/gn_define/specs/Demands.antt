-- What a kind demands of the fields of an item.
use Rattle.std.specs.Prelude.{ℕ, List, [], ◌∷◌, ◌==◌, nat_lt, length, Option, None, Some, is_some, if◌then◌else◌}
use Rattle.gn_faults.specs.declared.code.Code.{Code}
use Rattle.gn_faults.specs.declared.code.Code.TheVariants as code
use Rattle.gn_rows.specs.declared.row.Demand.{Demand}
use Rattle.gn_rows.specs.declared.row.Rule.{Rule}
use Rattle.gn_rows.specs.declared.row.Rule.TheVariants.{Required, Excluded, AtMostOne}
use Rattle.gn_rows.specs.declared.variable.Variable.{Variable}
use Rattle.gn_define.specs.declared.fault.ItemFault.{ItemFault}
use Rattle.gn_define.specs.declared.fault.ItemFault.TheVariants as faults
use Rattle.gn_define.specs.Fields.{field_at}
use Rattle.gn_define.specs.Held.{Held, texts, paths, labels, patterns, substs}

-- how many items a variable holds: one where it holds no list, and none where it isn't set
abbrev pub size_of : Option Held → ℕ
size_of None = 0
size_of (Some (texts ts)) = length ts
size_of (Some (paths ps)) = length ps
size_of (Some (labels ls)) = length ls
size_of (Some (patterns ps)) = length ps
size_of (Some (substs ss)) = length ss
size_of (Some _) = 1

-- the code where what a variable holds isn't as the rule says
abbrev pub broken : Rule → Option Held → Option Code
broken Required field = if size_of field == 0 then Some code.Missing else None
broken Excluded field = if is_some field then Some code.Excluded else None
broken AtMostOne field = if nat_lt 1 (size_of field) then Some code.BadArguments else None

-- the first demand that isn't met
abbrev pub broken_or : Variable → Option Code → Option ItemFault → Option ItemFault
broken_or variable (Some code) later = Some (faults.Variable variable code)
broken_or variable None later = later

abbrev pub first_broken : List (Variable × Held) → List Demand → Option ItemFault
first_broken made [] = None
first_broken made (d ∷ ds) = broken_or d.variable (broken d.rule (field_at made d.variable)) (first_broken made ds)
