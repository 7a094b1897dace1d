-- What threads may share, where they may share the fields of items.
use mir.Syntax.{Sym}
use denote.Enum.Declared as enums
use denote.Struct.Declared as structs
use denote.Ref.{NamedLft}
use denote.Param.Send.{IsSend, IsSync, EachSend, EachSync, sendable, view_sync, shr_sync, shr_slice_sync, recorded_send, recorded_sync, enum_send, enum_sync, struct_send, struct_sync}
use denote.Struct.Tuple.{TupleAt}
use Rattle.std.proofs.Crossing.{crosses}
use Rattle.gn_labels.specs.contracts.label.Label as Label
use Rattle.gn_define.specs.contracts.fields.Fields as Fields
use Rattle.gn_items.specs.contracts.tool.Tool as Tool
use Rattle.gn_items.specs.contracts.tools.Tools as Tools
use Rattle.gn_items.specs.contracts.tools.Tools.TheInside as TheTools
use Rattle.gn_items.specs.contracts.item.Item as Item
use Rattle.gn_labelled.specs.contracts.index.ItemIndex as ItemIndex
use Rattle.gn_labelled.specs.contracts.index.ItemIndex.TheInside as TheIndex
use Rattle.gn_labelled.specs.contracts.graph.ItemGraph as ItemGraph
use Rattle.gn_toolchains.specs.contracts.frames.Frames as Frames
use Rattle.gn_writing.specs.contracts.records.Group as Group
use Rattle.gn_writing.specs.contracts.records.CopyTarget as CopyTarget
use Rattle.gn_writing.specs.contracts.records.Action as Action
use Rattle.gn_writing.specs.contracts.records.Compiled as Compiled
use Rattle.gn_writing.specs.contracts.records.Written as Written
use Rattle.gn_records.specs.contracts.records.Exports as Exports
use Rattle.gn_records.specs.contracts.records.Record as Record
use Rattle.gn_resolve.specs.contracts.table.Entry as Entry
use Rattle.gn_resolve.specs.contracts.table.Resolved as Resolved
use Rattle.gn_threads.proofs.Captured.{captured_sync}
use Rattle.gn_resolve.specs.Captures.{captures}

label : IsSync Label.the_row
label = search (sendable, crosses) depth 40 fits 10000

-- each kind of target by itself, as a part of what is written: together they have more parts than one search goes through
group : IsSync (structs.field Group.the_type).row
group = search (sendable, crosses) depth 40 fits 10000

copy_target : IsSync (structs.field CopyTarget.the_type).row
copy_target = search (sendable, crosses) depth 40 fits 10000

action : IsSync (structs.field Action.the_type).row
action = search (sendable, crosses) depth 40 fits 10000

compiled : IsSync (structs.field Compiled.the_type).row
compiled = search (sendable, crosses) depth 40 fits 10000

written : IsSync (Written.the_field).row
written =
    let kinds : EachSync (enums.shape Written.the_type).variants = ((group, tt), ((copy_target, tt), ((action, tt), ((compiled, tt), tt)))) in
    enum_sync (enums.shape Written.the_type) kinds

exports : IsSync (Exports.the_field).row
exports = search (sendable, crosses) depth 40 fits 10000

record_sync : IsSync Record.the_row
record_sync = recorded_sync _ _ _ (Record.the_type).to_one (struct_sync (structs.shape Record.the_type) (written, (exports, tt)))

entry : IsSync Entry.the_row
entry = search (record_sync, label, sendable, crosses) depth 40 fits 10000

resolved : IsSync Resolved.the_row
resolved = search (entry, label, sendable, crosses) depth 40 fits 10000

-- what threads hand over of what is kept
pub label_send : IsSend Label.the_row
label_send = search (sendable, crosses) depth 40 fits 10000

group_send : IsSend (structs.field Group.the_type).row
group_send = search (sendable, crosses) depth 40 fits 10000

copy_send : IsSend (structs.field CopyTarget.the_type).row
copy_send = search (sendable, crosses) depth 40 fits 10000

action_send : IsSend (structs.field Action.the_type).row
action_send = search (sendable, crosses) depth 40 fits 10000

compiled_send : IsSend (structs.field Compiled.the_type).row
compiled_send = search (sendable, crosses) depth 40 fits 10000

written_send : IsSend (Written.the_field).row
written_send =
    let kinds : EachSend (enums.shape Written.the_type).variants = ((group_send, tt), ((copy_send, tt), ((action_send, tt), ((compiled_send, tt), tt)))) in
    enum_send (enums.shape Written.the_type) kinds

exports_send : IsSend (Exports.the_field).row
exports_send = search (sendable, crosses) depth 40 fits 10000

record_send : IsSend Record.the_row
record_send = recorded_send _ _ _ (Record.the_type).to_one (struct_send (structs.shape Record.the_type) (written_send, (exports_send, tt)))

pub entry_send : IsSend Entry.the_row
entry_send = search (record_send, label_send, sendable, crosses) depth 40 fits 10000

-- each part by itself: together they have more parts than one search goes through
module _ (fields : IsSync Fields.the_row) where
  tool : IsSync Tool.the_row
  tool = search (sendable, crosses) depth 40 fits 10000

  inside_tools : IsSync TheTools.the_row
  inside_tools = search (tool, sendable, crosses) depth 40 fits 10000

  tools : IsSync Tools.the_row
  tools = view_sync _ _ _ _ _ inside_tools

  item : IsSync Item.the_row
  item = search (tools, sendable, crosses) depth 40 fits 10000

  inside_index : (a : NamedLft) → IsSync (TheIndex.the_row a)
  inside_index a = search (item, label, sendable, crosses) depth 60 fits 10000

  index : (a : NamedLft) → IsSync (ItemIndex.the_row a)
  index a = view_sync _ _ _ _ _ (inside_index a)

  graph : (a : NamedLft) → IsSync (ItemGraph.the_row a Resolved.the_row)
  graph a = search (index, resolved, sendable, crosses) depth 40 fits 10000

  frames : (a : NamedLft) → IsSync (Frames.the_row a)
  frames a = search (tools, sendable, crosses) depth 60 fits 10000

  pub captures_sync : (name : Sym) (alloc frames lent graph items targets : NamedLft) → IsSync (TupleAt name (captures alloc frames lent graph items targets))
  captures_sync name a f l g i t =
      captured_sync name (captures a f l g i t) (search (sendable, crosses) depth 30, (shr_sync _ _ _ (frames l), (shr_sync _ _ _ (graph i), (shr_slice_sync _ _ _ label, tt))))
