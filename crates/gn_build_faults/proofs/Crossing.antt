-- What threads may share, where they may share the fields of items, and what they may hand over.
use mir.Syntax.{Sym}
use denote.Ref.{NamedLft}
use denote.Param.Send.{IsSend, IsSync, sendable, view_sync, shr_send, shr_sync, shr_slice_sync, recorded_send, struct_send}
use denote.Struct.Declared.{shape}
use denote.Struct.Tuple.{TupleAt}
use Rattle.std.proofs.Crossing.{crosses}
use Rattle.gn_paths.specs.contracts.text.Text as Text
use Rattle.gn_paths.specs.contracts.texts.Texts as Texts
use Rattle.gn_faults.specs.contracts.code.Code as Code
use Rattle.gn_faults.specs.contracts.fault.Fault as Fault
use Rattle.gn_labels.specs.contracts.label.Label as Label
use Rattle.gn_define.specs.contracts.fields.Fields as Fields
use Rattle.gn_items.specs.contracts.tool.Tool as Tool
use Rattle.gn_items.specs.contracts.tools.Tools as Tools
use Rattle.gn_items.specs.contracts.tools.Tools.TheInside as TheTools
use Rattle.gn_items.specs.contracts.item.Item as Item
use Rattle.gn_labelled.specs.contracts.index.ItemIndex as ItemIndex
use Rattle.gn_labelled.specs.contracts.index.ItemIndex.TheInside as TheIndex
use Rattle.gn_toolchains.specs.contracts.frames.Frames as Frames
use Rattle.gn_threads.proofs.Captured.{captured_sync}
use Rattle.gn_build_faults.specs.contracts.examined.Examined as Examined
use Rattle.gn_build_faults.specs.contracts.settling.SettledItems as SettledItems
use Rattle.gn_build_faults.specs.Captures.{examining, linking, finding}

label : IsSync Label.the_row
label = search (sendable, crosses) depth 40 fits 10000

text : IsSync Text.the_row
text = search (sendable, crosses) depth 40 fits 10000

settled : IsSync SettledItems.the_row
settled = search (sendable, crosses) depth 40 fits 10000

-- what threads hand over of what targets have by themselves
code_send : IsSend (Code.the_field).row
code_send = search sendable depth 400 fits 10000

fault_send : IsSend (Fault.the_field).row
fault_send = struct_send (shape Fault.the_type)
    (search (sendable, crosses) depth 40, (search (sendable, crosses) depth 40 fits 10000, (search (sendable, crosses) depth 40, (code_send, (search (sendable, crosses) depth 40 fits 10000, tt)))))

texts_send : IsSend Texts.the_row
texts_send = search (sendable, crosses) depth 40 fits 10000

pub examined_send : (a : NamedLft) → IsSend (Examined.the_row a)
examined_send a = recorded_send _ _ _ (Examined.the_type a).to_one
    (struct_send (shape (Examined.the_type a)) (shr_send _ _ _ label, (search (fault_send, sendable, crosses) depth 40 fits 10000, (texts_send, tt))))

-- each part by itself: together they have more parts than one search goes through
module _ (fields : IsSync Fields.the_row) where
  tool : IsSync Tool.the_row
  tool = search (sendable, crosses) depth 40 fits 10000

  inside_tools : IsSync TheTools.the_row
  inside_tools = search (tool, sendable, crosses) depth 40 fits 10000

  tools : IsSync Tools.the_row
  tools = view_sync _ _ _ _ _ inside_tools

  item : IsSync Item.the_row
  item = search (tools, sendable, crosses) depth 40 fits 10000

  inside_index : (a : NamedLft) → IsSync (TheIndex.the_row a)
  inside_index a = search (item, label, sendable, crosses) depth 60 fits 10000

  index : (a : NamedLft) → IsSync (ItemIndex.the_row a)
  index a = view_sync _ _ _ _ _ (inside_index a)

  frames : (a : NamedLft) → IsSync (Frames.the_row a)
  frames a = search (tools, sendable, crosses) depth 60 fits 10000

  pub linking_sync : (name : Sym) (alloc items lent : NamedLft) → IsSync (TupleAt name (linking alloc items lent))
  linking_sync name a i l = captured_sync name (linking a i l) (search (sendable, crosses) depth 30, (shr_sync _ _ _ (index l), tt))

  pub finding_sync : (name : Sym) (items lent labels : NamedLft) → IsSync (TupleAt name (finding items lent labels))
  finding_sync name i l n = captured_sync name (finding i l n) (shr_sync _ _ _ (index l), (shr_slice_sync _ _ _ label, tt))

  pub examining_sync : (name : Sym) (alloc default items lent settled frames framed targets : NamedLft) → IsSync (TupleAt name (examining alloc default items lent settled frames framed targets))
  examining_sync name a d i l s f g t =
      captured_sync name (examining a d i l s f g t)
      (search (sendable, crosses) depth 30, (shr_sync _ _ _ text, (shr_sync _ _ _ (index l), (shr_sync _ _ _ settled, (shr_sync _ _ _ (frames g), (shr_slice_sync _ _ _ label, tt))))))
