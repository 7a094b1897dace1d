-- What the end of an item's block defines, by the rows of its kind.
use Rattle.std.specs.Prelude.{ℕ, Bool, true, false, List, [], ◌∷◌, Option, Some, None, Result, Ok, Err}
use Rattle.gn_tree.specs.declared.position.Position.{Position}
use Rattle.gn_values.specs.Val.{Val, vstr}
use Rattle.gn_labels.specs.declared.label.Label.{Label}
use Rattle.gn_labels.specs.Labels.{printed}
use Rattle.gn_faults.specs.declared.fault.Fault.{Fault}
use Rattle.gn_rows.specs.declared.kinds.ItemKind.{ItemKind}
use Rattle.gn_rows.specs.declared.row.Row.{Row}
use Rattle.gn_rows.specs.declared.variable.Variable.{Variable}
use Rattle.gn_rows.specs.Names.{variable_name}
use Rattle.gn_rows.specs.Tables.{rows_of}
use Rattle.gn_define.specs.declared.fault.ItemFault.{ItemFault}
use Rattle.gn_define.specs.declared.place.Where.{Where}
use Rattle.gn_define.specs.Defining.{block_defines}
use Rattle.gn_define.specs.Faults.{code_of, detail_of}
use Rattle.gn_define.specs.Held.{Held}
use Rattle.gn_calls_path.specs.declared.place.Where.{Where as Calling}
use Rattle.gn_calls_path.specs.Directories.{root_out}
use Rattle.gn_items.specs.declared.item.Item.{Item}
use Rattle.gn_environment.specs.Environment.{Setting, Environment, value_of, after_read}
use Rattle.gn_environment.specs.Faults.{fault_in}

-- whether a value is a string
abbrev pub is_string : Val → Bool
is_string (vstr t) = true
is_string _ = false

-- the label of an item of this name where the evaluation takes place
abbrev pub label_here : Setting → List ℕ → Label
label_here setting name = record { dir = setting.directory; name = name; toolchain = setting.context.toolchain }

abbrev pub item_here : Setting → ItemKind → List ℕ → Position → List (Variable × Held) → Item
item_here setting kind name position fields = record {
  kind = kind;
  label = label_here setting name;
  place = record { file = setting.file; line = position.line; column = position.column };
  fields = fields;
  tools = [];
}

-- where a call on paths and labels stands
abbrev pub where_here : Setting → Calling
where_here setting = record {
  directory = setting.directory;
  toolchain = setting.context.toolchain;
  default_toolchain = setting.context.default_toolchain;
  build = setting.context.build_directory;
  root = setting.context.source_root;
}

-- the output directory of the toolchain under which the evaluation takes place
abbrev pub out_here : Setting → List ℕ
out_here setting = root_out (where_here setting)

-- where an item is defined
abbrev pub context_here : Setting → ItemKind → Where
context_here setting kind = record { kind = kind; directory = setting.directory; toolchain = setting.context.toolchain; build = setting.context.build_directory; out = out_here setting }

-- the fields of the item whose block has ended, by the rows of its kind, or its first fault: the name is judged first, then each row in order, then
-- what the kind demands
abbrev pub fields_here : ItemKind → List ℕ → Environment → Result (List (Variable × Held)) ItemFault
fields_here kind name env = block_defines (context_here env.setting kind) (rows_of kind) name (λ variable. value_of variable env)

-- the environment in which the names of these rows count as read, one after the other
abbrev pub rows_read : List Row → Environment → Environment
rows_read [] env = env
rows_read (row ∷ rows) env = rows_read rows (after_read (variable_name row.variable) env)

-- the fault of an item at its call: it shows the text that it has
abbrev pub texts_shown : Option (List ℕ) → List (List ℕ)
texts_shown (Some text) = text ∷ []
texts_shown None = []

abbrev pub item_fault : Setting → ItemKind → List ℕ → Position → ItemFault → Fault
item_fault setting kind name position fault = fault_in setting position (code_of fault) (texts_shown (detail_of kind name fault))

-- the item with these fields, with the environment in which the names of its kind are read, or its fault
abbrev pub item_made : ItemKind → List ℕ → Position → Environment → Result (List (Variable × Held)) ItemFault → Result (Item × Environment) Fault
item_made kind name position env (Ok fields) = Ok (item_here env.setting kind name position fields, rows_read (rows_of kind) env)
item_made kind name position env (Err fault) = Err (item_fault env.setting kind name position fault)

-- the item whose block has ended, or the first fault of its definition
unfoldable pub defined : ItemKind → List ℕ → Position → Environment → Result (Item × Environment) Fault
defined kind name position env = item_made kind name position env (fields_here kind name env)

-- the text of a label, which leaves out the default toolchain
abbrev pub label_text : Setting → Label → List ℕ
label_text setting label = printed setting.context.default_toolchain label
