-- What a block defines by rows: its name is judged first, then the rows in their order, then what its kind demands.
use Rattle.std.specs.Prelude.{ℕ, List, [], Option, None, Some, Result, Ok, is_some, if◌then◌else◌}
use Rattle.gn_labels.specs.Names.{is_name}
use Rattle.gn_rows.specs.declared.kinds.ItemKind.{ItemKind}
use Rattle.gn_rows.specs.declared.kinds.ItemKind.TheVariants.{Tool}
use Rattle.gn_rows.specs.declared.row.Row.{Row}
use Rattle.gn_rows.specs.declared.variable.Variable.{Variable}
use Rattle.gn_rows.specs.Names.{tool_named}
use Rattle.gn_rows.specs.Tables.{demands_of}
use Rattle.gn_values.specs.Val.{Val}
use Rattle.gn_define.specs.declared.fault.ItemFault.{ItemFault}
use Rattle.gn_define.specs.declared.fault.ItemFault.TheVariants.{BadName, UnknownTool}
use Rattle.gn_define.specs.declared.place.Where.{Where}
use Rattle.gn_define.specs.Demands.{first_broken}
use Rattle.gn_define.specs.Fields.{filled}
use Rattle.gn_define.specs.Held.{Held}
use Rattle.gn_define.specs.Reading.{then_do, unless}

-- the fault of a name, if it has one: a tool is one of those that are known, and all else has the name of a label
abbrev pub tool_fault : List ℕ → Option ItemFault
tool_fault name = if is_some (tool_named name) then None else Some UnknownTool

abbrev pub label_fault : List ℕ → Option ItemFault
label_fault name = if is_name name then None else Some BadName

abbrev pub name_fault : ItemKind → List ℕ → Option ItemFault
name_fault Tool name = tool_fault name
name_fault _ name = label_fault name

-- the fields, where all demands of a kind and a name are met
abbrev pub complete : ItemKind → List ℕ → List (Variable × Held) → Result (List (Variable × Held)) ItemFault
complete kind name made = unless (first_broken made (demands_of kind name)) (Ok made)

-- the fields of the item of a name that a block with these values defines by these rows, or its first fault
unfoldable pub block_defines : Where → List Row → List ℕ → (List ℕ → Option Val) → Result (List (Variable × Held)) ItemFault
block_defines w rows name values =
    unless (name_fault w.kind name) (then_do (complete w.kind name) (filled w values [] rows))
