-- What texts of tools are expanded by.
use Rattle.std.specs.Prelude.{ℕ, List, Option, None, Some, map}
use Rattle.gn_substs.specs.declared.positions.Position.{Position}
use Rattle.gn_substs.specs.declared.positions.Position.TheVariants.{ToolOutputs}
use Rattle.gn_substs.specs.Positions.{names_at}
use Rattle.gn_substs.specs.Sources.{source_text}
use Rattle.gn_writing.specs.Outputs.{values_of}
use Rattle.gn_records.specs.declared.expanding.Expansion.{Expansion}
use Rattle.gn_records.specs.declared.expanding.ToolSource.{ToolSource}
use Rattle.gn_records.specs.Output.{tool_given}
use Rattle.gn_records.specs.Outputs.{for_none}

-- what is given for a source that a tool builds; nothing where there is none
abbrev pub given_beside : Option ToolSource → Position × List (List ℕ)
given_beside None = for_none
given_beside (Some s) =
    (ToolOutputs, map (source_text ToolOutputs s.around.target.now s.around.build.now s.around.out.now s.source.now) (names_at ToolOutputs))

-- what is given at the position: that of the target, and what is given for the source
abbrev pub given_by : Expansion → Position × List (List ℕ)
given_by by = tool_given by.position (values_of by.names.now) (given_beside by.source)
