-- The files that stand for a target: its done file, and what is linked of a shared library.
use Rattle.std.specs.Prelude.{ℕ, List, [], ◌∷◌, ◌++◌, Option, None, Some}
use Rattle.std.specs.List.{flat_map}
use Rattle.gn_rows.specs.declared.kinds.ItemKind.{ItemKind}
use Rattle.gn_rows.specs.declared.kinds.ItemKind.TheVariants as kinds
use Rattle.gn_rows.specs.declared.variable.Variable.TheVariants.{DependOutput, LinkOutput}
use Rattle.gn_substs.specs.declared.positions.Position.{Position}
use Rattle.gn_substs.specs.declared.positions.Position.TheVariants.{ToolDependOutput, ToolLinkOutput}
use Rattle.gn_substs.specs.declared.subst.Subst.{Subst}
use Rattle.gn_items.specs.declared.item.Item.{Item}
use Rattle.gn_items.specs.declared.tool.Tool.{Tool}
use Rattle.gn_writing.specs.Outputs.{OutputValues, tool_outputs}
use Rattle.gn_records.specs.Around.{Around}
use Rattle.gn_records.specs.Flags.{first_or}
use Rattle.gn_records.specs.Output.{substs_of_tool, tool_given}
use Rattle.gn_records.specs.Outputs.{for_none}
use Rattle.gn_records.specs.Steps.{stamp_of}

-- what a tool's own text stands for where it is set, and else what the tool makes
abbrev pub set_outs : OutputValues → Position → List Subst → List (List ℕ) → List (List ℕ)
set_outs n position [] outs = outs
set_outs n position (text ∷ more) outs = tool_outputs n (tool_given position n for_none) (text ∷ more)

-- the first of some paths; nothing where there is none
abbrev pub first_path : List (List ℕ) → List ℕ
first_path paths = first_or [] paths

-- the done file: the stamp where the kind has no tool for its output; of a shared library what its tool says, where it does; and else the first output
abbrev pub done_of : Around → Item → ItemKind → OutputValues → Option Tool → List (List ℕ) → List ℕ
done_of c i kinds.SharedLibrary n tool outs = first_path (set_outs n ToolDependOutput (substs_of_tool DependOutput tool) outs)
done_of c i kinds.StaticLibrary n tool outs = first_path outs
done_of c i kinds.Executable n tool outs = first_path outs
done_of c i kinds.LoadableModule n tool outs = first_path outs
done_of c i _ n tool outs = stamp_of c i.label

-- what is linked of a shared library: what its tool says, where it does, and else its first output; of the others their first output
abbrev pub linked_of : ItemKind → OutputValues → Option Tool → List (List ℕ) → List ℕ
linked_of kinds.SharedLibrary n tool outs = first_path (set_outs n ToolLinkOutput (substs_of_tool LinkOutput tool) outs)
linked_of _ n tool outs = first_path outs
