-- The tools of a toolchain as its file has them.
use Rattle.std.specs.Prelude.{ℕ, List, [], ◌∷◌, ◌++◌, Bool, true, Option, None, Some, codes}
use Rattle.std.specs.List.{flat_map}
use Rattle.gn_rows.specs.declared.kinds.ToolName.{ToolName}
use Rattle.gn_rows.specs.declared.variable.Variable.{Variable}
use Rattle.gn_rows.specs.declared.variable.Variable.TheVariants as variables
use Rattle.gn_substs.specs.declared.subst.Subst.{Subst}
use Rattle.gn_substs.specs.Variables.{tool_text}
use Rattle.gn_define.specs.Fields.{field_at, boolean_of, labels_of, substs_of}
use Rattle.gn_items.specs.declared.tool.Tool.{Tool}
use Rattle.gn_writing.specs.declared.records.Tool.{Tool as ToolRule}
use Rattle.gn_records.specs.declared.tools.ToolTexts.{ToolTexts}
use Rattle.gn_records.specs.declared.tools.TheConstants.{TOOLS}
use Rattle.gn_records.specs.Actions.{first_pool}
use Rattle.gn_records.specs.Around.{Around}
use Rattle.gn_records.specs.Flags.{text_of_tool}
use Rattle.gn_records.specs.Output.{tool_where}

-- the first of some texts as a value in which Ninja variables stand for the substitutions; nothing where there is none
abbrev pub first_text : List Subst → List ℕ
first_text [] = []
first_text (text ∷ more) = tool_text text.pieces text.last

-- the text of a variable of a tool
abbrev pub rule_text : Variable → Tool → List ℕ
rule_text v t = first_text (substs_of (field_at t.fields v))

abbrev pub rule_texts : Tool → ToolTexts
rule_texts t = record {
  command = rule_text variables.Command t;
  depfile = rule_text variables.Depfile t;
  description = rule_text variables.Description t;
  rspfile = rule_text variables.Rspfile t;
  rspfile_content = rule_text variables.RspfileContent t;
}

-- `1` where it is so
abbrev pub one_if : Option Bool → List ℕ
one_if (Some true) = codes "1"
one_if _ = []

-- a tool whose rule has these texts
abbrev pub tool_with : Around → Tool → ToolTexts → ToolRule
tool_with c t texts = record {
  rule = c.prefix ++ t.name;
  command = texts.command;
  depfile = texts.depfile;
  depsformat = text_of_tool variables.Depsformat (Some t);
  description = texts.description;
  pool = first_pool c.default (labels_of (field_at t.fields variables.Pool));
  restat = one_if (boolean_of (field_at t.fields variables.Restat));
  rspfile = texts.rspfile;
  rspfile_content = texts.rspfile_content;
}

-- a tool as the file of its toolchain has it
unfoldable pub tool_of : Around → Tool → ToolRule
tool_of c t = tool_with c t (rule_texts t)

-- the tool of a name, where the toolchain has it
abbrev pub tool_if : Around → Option Tool → List ToolRule
tool_if c None = []
tool_if c (Some t) = tool_of c t ∷ []

abbrev pub tool_named : Around → ToolName → List ToolRule
tool_named c name = tool_if c (tool_where c (Some name))

-- all tools of the toolchain, in the order of the bytes of their names
abbrev pub tools_written : Around → List ToolRule
tools_written c = flat_map (tool_named c) TOOLS
