-- What is written of targets whose sources are compiled.
use Rattle.std.specs.Prelude.{ℕ, List, [], ◌∷◌, ◌++◌, Bool, true, false, Option, None, Some, map, is_some}
use Rattle.std.specs.List.{flat_map, filter}
use Rattle.gn_paths.specs.Parts.{file_of, name_in}
use Rattle.gn_paths.specs.Rebase.{seen_from}
use Rattle.gn_labels.specs.declared.label.Label.{Label}
use Rattle.gn_labels.specs.Labels.{printed}
use Rattle.gn_rows.specs.declared.kinds.ItemKind.{ItemKind}
use Rattle.gn_rows.specs.declared.kinds.ItemKind.TheVariants as kinds
use Rattle.gn_rows.specs.declared.kinds.ToolName.{ToolName}
use Rattle.gn_rows.specs.declared.variable.Variable.TheVariants.{Sources, Inputs, Outputs}
use Rattle.gn_substs.specs.declared.positions.Position.{Position}
use Rattle.gn_substs.specs.declared.positions.Position.TheVariants.{ToolOutputs}
use Rattle.gn_define.specs.declared.fields.Fields.{Fields}
use Rattle.gn_define.specs.Fields.{field_at, paths_of, substs_of}
use Rattle.gn_items.specs.declared.item.Item.{Item}
use Rattle.gn_items.specs.declared.tool.Tool.{Tool}
use Rattle.gn_writing.specs.declared.records.Directories.{Directories}
use Rattle.gn_writing.specs.declared.records.Dones.{Dones}
use Rattle.gn_writing.specs.declared.records.Join.{Join}
use Rattle.gn_writing.specs.declared.records.LabelTexts.{LabelTexts}
use Rattle.gn_writing.specs.declared.records.OutputTexts.{OutputTexts}
use Rattle.gn_writing.specs.declared.records.OwnSources.{OwnSources}
use Rattle.gn_writing.specs.declared.records.Step.{Step}
use Rattle.gn_writing.specs.declared.records.Unit.{Unit as Source}
use Rattle.gn_writing.specs.declared.sources.SourceUse.{SourceUse}
use Rattle.gn_writing.specs.declared.sources.SourceUse.TheVariants.{Built, Object, NotBuilt}
use Rattle.gn_writing.specs.Outputs.{OutputValues, tool_outputs}
use Rattle.gn_writing.specs.Rest.{is_missing}
use Rattle.gn_writing.specs.Sources.{use_of}
use Rattle.gn_records.specs.declared.compiled.Bindings.{Bindings}
use Rattle.gn_records.specs.declared.inherited.Inherited.{Inherited}
use Rattle.gn_records.specs.declared.output.Output.{Output}
use Rattle.gn_records.specs.Around.{Around}
use Rattle.gn_records.specs.Actions.{first_of}
use Rattle.gn_records.specs.Flags.{compile_flags, link_flags_where}
use Rattle.gn_records.specs.Output.{own_tool, tool_where, tool_given, values_for}
use Rattle.gn_records.specs.Outputs.{for_source, for_none, paths_at}
use Rattle.gn_records.specs.Steps.{rule_of, stamp_step}

-- the kinds that are linked
abbrev pub is_linked : ItemKind → Bool
is_linked kinds.Executable = true
is_linked kinds.SharedLibrary = true
is_linked kinds.LoadableModule = true
is_linked _ = false

-- a text where the name that it stands for is bound
abbrev pub where_bound : Bool → List ℕ → Option (List ℕ)
where_bound false text = None
where_bound true text = Some text

-- how the target is called: without its toolchain it is printed as one of the default one
abbrev pub label_texts : Around → Label → LabelTexts
label_texts c label = record {
  label = printed c.default label;
  name = label.name;
  no_toolchain = where_bound c.bound.label_no_toolchain (printed label.toolchain label);
}

-- a directory as seen from the build directory; nothing where it is none
abbrev pub seen_if : List ℕ → Option (List ℕ) → List ℕ
seen_if build None = []
seen_if build (Some path) = seen_from build path

-- its output
abbrev pub output_texts : Around → Output → OutputTexts
output_texts c o = record { directory = seen_if c.build o.directory; extension = o.extension; name = o.name }

-- its directories
abbrev pub directories_of : Around → Output → Directories
directories_of c o = record {
  root_gen_dir = where_bound c.bound.root_gen_dir (seen_from c.build c.generated);
  root_out_dir = seen_from c.build c.out;
  target_gen_dir = where_bound c.bound.target_gen_dir (seen_from c.build o.around.generated);
  target_out_dir = seen_from c.build o.around.objects;
}

-- what a tool makes by the texts of its outputs; nothing where the toolchain lacks it
abbrev pub outs_of_tool : OutputValues → Position × List (List ℕ) → Option Tool → List (List ℕ)
outs_of_tool n given None = []
outs_of_tool n given (Some t) = tool_outputs n (tool_given ToolOutputs n given) (substs_of (field_at t.fields Outputs))

-- a source that a tool builds
abbrev pub unit_of : Around → Item → OutputValues → ToolName → List ℕ → Source
unit_of c i n tool source = record {
  rule = rule_of c tool;
  source = seen_from c.build source;
  file_part = file_of source;
  name_part = name_in (file_of source);
  outs = outs_of_tool n (for_source c i ToolOutputs source) (tool_where c (Some tool));
}

-- the sources that are built of one source, and the objects that it gives: the first output of what is built, or itself
abbrev pub units_used : Around → Item → OutputValues → List ℕ → SourceUse → List Source
units_used c i n source (Built tool) = unit_of c i n tool source ∷ []
units_used c i n source _ = []

abbrev pub first_alone : List (List ℕ) → List (List ℕ)
first_alone [] = []
first_alone (path ∷ more) = path ∷ []

abbrev pub objects_used : Around → Item → OutputValues → List ℕ → SourceUse → List (List ℕ)
objects_used c i n source (Built tool) = first_alone (unit_of c i n tool source).outs
objects_used c i n source Object = seen_from c.build source ∷ []
objects_used c i n source NotBuilt = []

unfoldable pub units_for : Around → Item → OutputValues → List ℕ → List Source
units_for c i n source = units_used c i n source (use_of source)

unfoldable pub objects_for : Around → Item → OutputValues → List ℕ → List (List ℕ)
objects_for c i n source = objects_used c i n source (use_of source)

-- what the target makes of its own sources
abbrev pub own_sources : Around → Item → OutputValues → List (List ℕ) → OwnSources
own_sources c i n hard = record {
  inputs = paths_at c i Inputs;
  hard = hard;
  units = flat_map (units_for c i n) (paths_of (field_at i.fields Sources));
  objects = flat_map (objects_for c i n) (paths_of (field_at i.fields Sources));
}

-- the line that joins the objects: a stamp where the kind has no tool for its output
abbrev pub tool_step : Around → OutputValues → ToolName → Step
tool_step c n tool = record { rule = rule_of c tool; outs = outs_of_tool n for_none (tool_where c (Some tool)) }

abbrev pub join_step : Around → Item → OutputValues → Option ToolName → Step
join_step c i n None = stamp_step c i.label
join_step c i n (Some tool) = tool_step c n tool

-- the done files that wait beside it: all, or where it is linked those that aren't in the line and aren't of inherited source sets
abbrev pub rest_where : Bool → Dones → List (List ℕ) → Inherited → List (List ℕ)
rest_where false d objects h = d.deps ++ d.data_deps
rest_where true d objects h =
    filter (is_missing (objects ++ (h.set_objects ++ (h.statics ++ (h.shared ++ h.set_dones))))) (d.deps ++ d.data_deps)

-- what it joins besides its own objects, which is nothing where it isn't linked
abbrev pub only_where : Bool → List (List ℕ) → List (List ℕ)
only_where false paths = []
only_where true paths = paths

abbrev pub join_of : Bool → Step → Dones → List (List ℕ) → Inherited → Join
join_of linked step d objects h = record {
  step = step;
  set_objects = only_where linked h.set_objects;
  statics = only_where linked h.statics;
  shared = only_where linked h.shared;
  rest = rest_where linked d objects h;
}

-- what a compiled target with this output binds
abbrev pub bindings_of : Around → Item → List Fields → Inherited → Output → Bindings
bindings_of c i configs h o = record {
  compile = compile_flags c.build i.fields configs;
  link = link_flags_where (is_linked i.kind) c.build (tool_where c (own_tool i.kind)) i.fields configs h;
  names = label_texts c i.label;
  output = output_texts c o;
  directories = directories_of c o;
}
