-- What no dependency of a target changes of its record.
use Rattle.std.specs.Prelude.{ℕ, List, [], ◌++◌, if◌then◌else◌}
use Rattle.std.specs.List.{flat_map}
use Rattle.gn_rows.specs.declared.variable.Variable.TheVariants.{Sources}
use Rattle.gn_define.specs.declared.fields.Fields.{Fields}
use Rattle.gn_define.specs.Fields.{field_at, paths_of}
use Rattle.gn_items.specs.declared.item.Item.{Item}
use Rattle.gn_writing.specs.declared.records.Dones.{Dones}
use Rattle.gn_writing.specs.declared.records.Step.{Step}
use Rattle.gn_writing.specs.declared.records.Written.{Written}
use Rattle.gn_writing.specs.declared.sources.SourceUse.{SourceUse}
use Rattle.gn_writing.specs.declared.sources.SourceUse.TheVariants.{Built}
use Rattle.gn_writing.specs.Kinds.{target_blocks}
use Rattle.gn_writing.specs.Lines.{made}
use Rattle.gn_writing.specs.Outputs.{OutputValues}
use Rattle.gn_writing.specs.Sources.{use_of}
use Rattle.gn_records.specs.declared.inherited.Inherited.{Inherited}
use Rattle.gn_records.specs.declared.output.Output.{Output}
use Rattle.gn_records.specs.declared.records.Exports.{Exports}
use Rattle.gn_records.specs.declared.records.Record.{Record}
use Rattle.gn_records.specs.Around.{Around}
use Rattle.gn_records.specs.Compiled.{objects_for, unit_of, join_step}
use Rattle.gn_records.specs.Made.{outputs_of}
use Rattle.gn_records.specs.Output.{own_tool, tool_where, output_of, values_for}
use Rattle.gn_records.specs.Records.{is_plain, plain_exports, exports_of, record_of}

-- the output of a compiled target, what the target gives to the texts of tools, and the line that joins its objects
abbrev pub own_output : Around → Item → Output
own_output c i = output_of c i (tool_where c (own_tool i.kind))

abbrev pub own_values : Around → Item → OutputValues
own_values c i = values_for c i (own_output c i)

abbrev pub own_step : Around → Item → Step
own_step c i = join_step c i (own_values c i) (own_tool i.kind)

-- what a target with these configurations gives to those that depend on it
unfoldable pub exports_at : Around → Item → List Fields → Exports
exports_at c i configs =
    if is_plain i.kind then plain_exports c i else exports_of c i configs (own_output c i) (own_step c i).outs

-- its objects, in the order of its sources; a target whose sources aren't compiled has none
unfoldable pub objects_at : Around → Item → List (List ℕ)
objects_at c i =
    if is_plain i.kind then [] else flat_map (objects_for c i (own_values c i)) (paths_of (field_at i.fields Sources))

-- nothing that is inherited, and no done files
abbrev pub no_inherited : Inherited
no_inherited = record { set_objects = []; set_dones = []; statics = []; shared = []; solibs = []; libs = []; lib_dirs = [] }

abbrev pub no_dones : Dones
no_dones = record { deps = []; data_deps = [] }

-- the record of a target that has no configurations and no dependencies
abbrev pub alone : Around → Item → Record
alone c i = record_of c i [] no_inherited no_dones []

-- what is made of a source, by what becomes of it
abbrev pub outs_used : Around → Item → OutputValues → List ℕ → SourceUse → List (List ℕ)
outs_used c i n source (Built tool) = (unit_of c i n tool source).outs
outs_used c i n source _ = []

unfoldable pub outs_for : Around → Item → OutputValues → List ℕ → List (List ℕ)
outs_for c i n source = outs_used c i n source (use_of source)

-- what a target whose sources are compiled makes of these and by its last line
unfoldable pub compiled_outs : Around → Item → List (List ℕ)
compiled_outs c i = flat_map (outs_for c i (own_values c i)) (paths_of (field_at i.fields Sources)) ++ (own_step c i).outs

-- the left sides of the build lines of its file, in order
unfoldable pub made_at : Around → Item → List (List ℕ)
made_at c i = made (target_blocks (alone c i).written)

-- those of them that are no objects and no stamp
unfoldable pub outputs_at : Around → Item → List (List ℕ)
outputs_at c i = outputs_of i.kind (alone c i).written
