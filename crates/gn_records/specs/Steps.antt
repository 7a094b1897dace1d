-- What the tools of a toolchain carry out, and the stamps of targets.
use Rattle.std.specs.Prelude.{ℕ, List, [], ◌∷◌, ◌++◌, codes, if◌then◌else◌}
use Rattle.gn_labels.specs.declared.label.Label.{Label}
use Rattle.gn_rows.specs.declared.kinds.ToolName.{ToolName}
use Rattle.gn_rows.specs.declared.kinds.ToolName.TheVariants.{Stamp}
use Rattle.gn_rows.specs.Names.{tool_name}
use Rattle.gn_items.specs.Tools.{has_name}
use Rattle.gn_writing.specs.declared.records.Step.{Step}
use Rattle.gn_writing.specs.TargetNames.{target_file}
use Rattle.gn_records.specs.Around.{Around}

-- the rule of a tool
abbrev pub rule_of : Around → ToolName → List ℕ
rule_of c tool = c.prefix ++ tool_name tool

-- what a tool makes; nothing where the toolchain lacks it
abbrev pub where_had : Around → ToolName → List (List ℕ) → List (List ℕ)
where_had c tool outs = if has_name (tool_name tool) c.tools then outs else []

-- the stamp of a target
abbrev pub stamp_of : Around → Label → List ℕ
stamp_of c label = target_file c.build c.out label (codes ".stamp")

-- the response file of an action
abbrev pub response_of : Around → Label → List ℕ
response_of c label = stamp_of c label ++ codes ".rsp"

-- the line that makes a stamp
abbrev pub stamp_step : Around → Label → Step
stamp_step c label = record { rule = rule_of c Stamp; outs = where_had c Stamp (stamp_of c label ∷ []) }
