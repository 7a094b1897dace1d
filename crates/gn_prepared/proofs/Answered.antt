-- What threads may share and hand over of what is filed.
use denote.RattleType.{RattleType}
use denote.Enum.Declared as enums
use denote.Struct.Declared.{shape}
use denote.Struct.Field.{usize-field}
use denote.Param.Send.{IsSend, IsSync, sendable, view_send, view_sync, recorded_send, recorded_sync, struct_send, struct_sync, enum_send, enum_sync}
use Rattle.std.proofs.Crossing.{crosses, Arc-sync, Vec-send, Vec-sync}
use Rattle.std.proofs.MapsCrossing.{BTreeMap-send, BTreeMap-sync}
use Rattle.gn_paths.specs.contracts.path.Path as Path
use Rattle.gn_paths.specs.contracts.place.Place as Place
use Rattle.gn_faults.specs.contracts.code.Code as Code
use Rattle.gn_faults.specs.contracts.fault.Fault as Fault
use Rattle.gn_definitions.specs.contracts.import_value.ImportValue as ImportValue
use Rattle.gn_answers.specs.contracts.answer.FileContent as FileContent
use Rattle.gn_answers.specs.contracts.answer.Executed as Executed
use Rattle.gn_answers.specs.contracts.answer.Filed as Filed
use Rattle.gn_answers.specs.contracts.answer.Answer as Answer
use Rattle.gn_answers.specs.contracts.answer.Answer.TheInside as TheAnswer
use Rattle.gn_define.specs.contracts.fields.Fields as Fields
use Rattle.gn_labels.specs.contracts.label.Label as Label
use Rattle.gn_labels.specs.contracts.label.LabelPartialEq.TheImpl as equal
use Rattle.gn_labels.specs.contracts.label.LabelPartialOrd.TheImpl as partial
use Rattle.gn_items.specs.contracts.tool.Tool as Tool
use Rattle.gn_items.specs.contracts.tools.Tools as Tools
use Rattle.gn_items.specs.contracts.tools.Tools.TheInside as TheTools
use Rattle.gn_items.specs.contracts.item.Item as Item
use Rattle.gn_items.specs.contracts.outcome.Outcome as Outcome
use Rattle.gn_items.specs.contracts.outcome.Outcome.TheInside as TheOutcome

label_send : IsSend Label.the_row
label_send = search (sendable, crosses) depth 40 fits 10000

label : IsSync Label.the_row
label = search (sendable, crosses) depth 40 fits 10000

-- what executions leave
module _ (fields_send : IsSend Fields.the_row) (fields : IsSync Fields.the_row) where
  tool_send : IsSend Tool.the_row
  tool_send = search (sendable, crosses) depth 40 fits 10000

  tool : IsSync Tool.the_row
  tool = search (sendable, crosses) depth 40 fits 10000

  inside_tools_send : IsSend TheTools.the_row
  inside_tools_send = search (tool_send, sendable, crosses) depth 40 fits 10000

  inside_tools : IsSync TheTools.the_row
  inside_tools = search (tool, sendable, crosses) depth 40 fits 10000

  tools_send : IsSend Tools.the_row
  tools_send = view_send _ _ _ _ _ inside_tools_send

  tools : IsSync Tools.the_row
  tools = view_sync _ _ _ _ _ inside_tools

  item_send : IsSend Item.the_row
  item_send = search (tools_send, sendable, crosses) depth 40 fits 10000

  item : IsSync Item.the_row
  item = search (tools, sendable, crosses) depth 40 fits 10000

  inside_outcome_send : IsSend TheOutcome.the_row
  inside_outcome_send = recorded_send _ _ _ (TheOutcome.the_type).to_one (struct_send (shape TheOutcome.the_type) (
    search (sendable, crosses) depth 30,
    (
      Vec-send _ item_send,
      (
        BTreeMap-send Label.the_row usize-field.row _ equal.ghosts partial.ghosts label_send (search (sendable, crosses) depth 30),
        (
          tools_send,
          (search (sendable, crosses) depth 40 fits 10000, (search (sendable, crosses) depth 40 fits 10000, (search (sendable, crosses) depth 40 fits 10000, (search (sendable, crosses) depth 40 fits 10000, (search (sendable, crosses) depth 40 fits 10000, tt))))),
        ),
      ),
    ),
  ))

  inside_outcome : IsSync TheOutcome.the_row
  inside_outcome = recorded_sync _ _ _ (TheOutcome.the_type).to_one (struct_sync (shape TheOutcome.the_type) (
    search (sendable, crosses) depth 30,
    (
      Vec-sync _ item,
      (
        BTreeMap-sync Label.the_row usize-field.row _ equal.ghosts partial.ghosts label (search (sendable, crosses) depth 30),
        (
          tools,
          (search (sendable, crosses) depth 40 fits 10000, (search (sendable, crosses) depth 40 fits 10000, (search (sendable, crosses) depth 40 fits 10000, (search (sendable, crosses) depth 40 fits 10000, (search (sendable, crosses) depth 40 fits 10000, tt))))),
        ),
      ),
    ),
  ))

  pub outcome_send : IsSend Outcome.the_row
  outcome_send = view_send _ _ _ _ _ inside_outcome_send

  pub outcome : IsSync Outcome.the_row
  outcome = view_sync _ _ _ _ _ inside_outcome

code_send : IsSend (Code.the_field).row
code_send = search sendable depth 400 fits 10000

code : IsSync (Code.the_field).row
code = search sendable depth 400 fits 10000

fault_send : IsSend (Fault.the_field).row
fault_send = struct_send (shape Fault.the_type)
    (search (sendable, crosses) depth 40, (search (sendable, crosses) depth 40 fits 10000, (search (sendable, crosses) depth 40, (code_send, (search (sendable, crosses) depth 40 fits 10000, tt)))))

fault : IsSync (Fault.the_field).row
fault = struct_sync (shape Fault.the_type)
    (search (sendable, crosses) depth 40, (search (sendable, crosses) depth 40 fits 10000, (search (sendable, crosses) depth 40, (code, (search (sendable, crosses) depth 40 fits 10000, tt)))))

place_send : IsSend (Place.the_field).row
place_send = search (sendable, crosses) depth 40 fits 10000

place : IsSync (Place.the_field).row
place = search (sendable, crosses) depth 40 fits 10000

path_send : IsSend Path.the_row
path_send = search (sendable, crosses) depth 30

path : IsSync Path.the_row
path = search (sendable, crosses) depth 30

content_send : IsSend (FileContent.the_field).row
content_send = search (sendable, crosses) depth 40 fits 10000

content : IsSync (FileContent.the_field).row
content = search (sendable, crosses) depth 40 fits 10000

-- what is filed
module _ (outcome_send : IsSend Outcome.the_row) (outcome : IsSync Outcome.the_row) where
  executed_send : (T : RattleType) → IsSend T → IsSend (Executed.the_field T).row
  executed_send T sent =
      enum_send (enums.shape (Executed.the_type T))
      ((sent, (outcome_send, tt)), ((fault_send, (search (sendable, crosses) depth 40 fits 10000, tt)), ((path_send, (place_send, (search (sendable, crosses) depth 40 fits 10000, tt))), tt)))

  executed : (T : RattleType) → IsSync T → IsSync (Executed.the_field T).row
  executed T shared =
      enum_sync (enums.shape (Executed.the_type T))
      ((shared, (outcome, tt)), ((fault, (search (sendable, crosses) depth 40 fits 10000, tt)), ((path, (place, (search (sendable, crosses) depth 40 fits 10000, tt))), tt)))

  module _ (import_send : IsSend ImportValue.the_row) (import_sync : IsSync ImportValue.the_row) where
    pub filed_send : IsSend Filed.the_row
    filed_send = recorded_send _ _ _ (Filed.the_type).to_one
        (enum_send (enums.shape Filed.the_type)
        ((content_send, tt), ((executed_send _ import_send, tt), ((search (executed_send, sendable, crosses) depth 40 fits 10000, tt), ((path_send, (place_send, (search (sendable, crosses) depth 40 fits 10000, tt))), tt)))))

    pub filed : IsSync Filed.the_row
    filed = recorded_sync _ _ _ (Filed.the_type).to_one
        (enum_sync (enums.shape Filed.the_type)
        ((content, tt), ((executed _ import_sync, tt), ((search (executed, sendable, crosses) depth 40 fits 10000, tt), ((path, (place, (search (sendable, crosses) depth 40 fits 10000, tt))), tt)))))

    inside_answer : IsSync TheAnswer.the_row
    inside_answer = recorded_sync _ _ _ (TheAnswer.the_type).to_one (struct_sync (shape TheAnswer.the_type) (Arc-sync _ filed_send filed, tt))

    pub answer : IsSync Answer.the_row
    answer = view_sync _ _ _ _ _ inside_answer
