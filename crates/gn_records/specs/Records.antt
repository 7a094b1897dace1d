-- What is known of a target that is resolved.
use Rattle.std.specs.Prelude.{ℕ, List, [], Bool, true, false, if◌then◌else◌}
use Rattle.gn_rows.specs.declared.kinds.ItemKind.{ItemKind}
use Rattle.gn_rows.specs.declared.kinds.ItemKind.TheVariants as kinds
use Rattle.gn_rows.specs.declared.variable.Variable.TheVariants.{Libs, LibDirs}
use Rattle.gn_define.specs.declared.fields.Fields.{Fields}
use Rattle.gn_items.specs.declared.item.Item.{Item}
use Rattle.gn_writing.specs.declared.records.Dones.{Dones}
use Rattle.gn_writing.specs.declared.records.Join.{Join}
use Rattle.gn_writing.specs.declared.records.OwnSources.{OwnSources}
use Rattle.gn_writing.specs.declared.records.Step.{Step}
use Rattle.gn_writing.specs.declared.records.Written.{Written}
use Rattle.gn_writing.specs.declared.records.Written.TheVariants as written
use Rattle.gn_records.specs.declared.compiled.Bindings.{Bindings}
use Rattle.gn_records.specs.declared.inherited.Inherited.{Inherited}
use Rattle.gn_records.specs.declared.output.Output.{Output}
use Rattle.gn_records.specs.declared.records.Exports.{Exports}
use Rattle.gn_records.specs.declared.records.Record.{Record}
use Rattle.gn_records.specs.Around.{Around}
use Rattle.gn_records.specs.Actions.{action_record, foreach_record}
use Rattle.gn_records.specs.Compiled.{is_linked, own_sources, join_step, only_where, join_of, bindings_of}
use Rattle.gn_records.specs.Done.{done_of, linked_of}
use Rattle.gn_records.specs.Flags.{all_texts, all_seen_at}
use Rattle.gn_records.specs.Output.{own_tool, tool_where, output_of, values_for}
use Rattle.gn_records.specs.Plain.{group_record, copy_record}
use Rattle.gn_records.specs.Steps.{stamp_of}

-- what a target gives that has no objects: its stamp is its done file, and nothing of it is linked
abbrev pub plain_exports : Around → Item → Exports
plain_exports c i = record { done = stamp_of c i.label; linked = []; libs = []; lib_dirs = [] }

-- the kinds whose libraries are linked by others
abbrev pub gives_libs : ItemKind → Bool
gives_libs kinds.SourceSet = true
gives_libs kinds.StaticLibrary = true
gives_libs _ = false

-- the done file of a compiled target with this output, whose last line makes this, and what is linked of it
abbrev pub done_with : Around → Item → Output → List (List ℕ) → List ℕ
done_with c i o outs = done_of c i i.kind (values_for c i o) (tool_where c (own_tool i.kind)) outs

abbrev pub linked_with : Around → Item → Output → List (List ℕ) → List ℕ
linked_with c i o outs = linked_of i.kind (values_for c i o) (tool_where c (own_tool i.kind)) outs

-- what it gives to those that depend on it
abbrev pub exports_of : Around → Item → List Fields → Output → List (List ℕ) → Exports
exports_of c i configs o outs = record {
  done = done_with c i o outs;
  linked = linked_with c i o outs;
  libs = only_where (gives_libs i.kind) (all_texts Libs i.fields configs);
  lib_dirs = only_where (gives_libs i.kind) (all_seen_at c.build LibDirs i.fields configs);
}

-- the record of these parts
abbrev pub record_with : Bindings → OwnSources → Join → Exports → Record
record_with b s j e = record {
  written = written.Compiled (record {
    compile = b.compile;
    link = b.link;
    names = b.names;
    output = b.output;
    directories = b.directories;
    sources = s;
    join = j;
  });
  exports = e;
}

-- the record of a compiled target with this output
abbrev pub with_parts : Around → Item → List Fields → Inherited → Dones → Output → OwnSources → Step → Record
with_parts c i configs h d o s step =
    record_with (bindings_of c i configs h o) s (join_of (is_linked i.kind) step d s.objects h) (exports_of c i configs o step.outs)

abbrev pub with_output : Around → Item → List Fields → Inherited → Dones → List (List ℕ) → Output → Record
with_output c i configs h d hard o =
    with_parts c i configs h d o (own_sources c i (values_for c i o) hard) (join_step c i (values_for c i o) (own_tool i.kind))

abbrev pub compiled_record : Around → Item → List Fields → Inherited → Dones → List (List ℕ) → Record
compiled_record c i configs h d hard = with_output c i configs h d hard (output_of c i (tool_where c (own_tool i.kind)))

-- the kinds that have no objects
abbrev pub is_plain : ItemKind → Bool
is_plain kinds.Group = true
is_plain kinds.Copy = true
is_plain kinds.Action = true
is_plain kinds.ActionForeach = true
is_plain _ = false

-- what is written of a target of such a kind
abbrev pub plain_written : ItemKind → Around → Item → Dones → Written
plain_written kinds.Copy c i d = copy_record c i d
plain_written kinds.Action c i d = action_record c i d
plain_written kinds.ActionForeach c i d = foreach_record c i d
plain_written _ c i d = group_record c i.label d

abbrev pub plain_record : Around → Item → Dones → Record
plain_record c i d = record { written = plain_written i.kind c i d; exports = plain_exports c i }

-- the record of a target, by its kind
unfoldable pub record_of : Around → Item → List Fields → Inherited → Dones → List (List ℕ) → Record
record_of c i configs h d hard =
    if is_plain i.kind then plain_record c i d else compiled_record c i configs h d hard
