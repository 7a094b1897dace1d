-- What threads may share and hand over of what a file leaves for those that import it.
use denote.Struct.Declared.{shape}
use denote.Param.Send.{IsSend, IsSync, sendable, view_send, view_sync, recorded_send, recorded_sync, struct_send, struct_sync}
use Rattle.std.proofs.Crossing.{crosses, Arc-send, Arc-sync, Vec-send, Vec-sync}
use Rattle.std.proofs.MapsCrossing.{BTreeMap-send, BTreeMap-sync}
use Rattle.gn_paths.specs.contracts.text.Text as Text
use Rattle.gn_paths.specs.contracts.text.TextPartialEq.TheImpl as equal
use Rattle.gn_paths.specs.contracts.text.TextPartialOrd.TheImpl as partial
use Rattle.gn_definitions.specs.contracts.kept.KeptScope as KeptScope
use Rattle.gn_definitions.specs.contracts.kept.Definition as Definition
use Rattle.gn_definitions.specs.contracts.kept.Definitions as Definitions
use Rattle.gn_definitions.specs.contracts.kept.Definitions.TheInside as TheDefinitions
use Rattle.gn_definitions.specs.contracts.import_value.MadeBy as MadeBy
use Rattle.gn_definitions.specs.contracts.import_value.MadeBy.TheInside as TheMadeBy
use Rattle.gn_definitions.specs.contracts.import_value.ImportValue as ImportValue
use Rattle.gn_definitions.specs.contracts.import_value.ImportValue.TheInside as TheImport

text_send : IsSend Text.the_row
text_send = search (sendable, crosses) depth 30

text : IsSync Text.the_row
text = search (sendable, crosses) depth 30

module _ (definition_send : IsSend Definition.the_row) (definition : IsSync Definition.the_row) where
  inside_definitions_send : IsSend TheDefinitions.the_row
  inside_definitions_send = recorded_send _ _ _ (TheDefinitions.the_type).to_one (struct_send (shape TheDefinitions.the_type) (Vec-send _ (Arc-send _ definition_send definition), tt))

  inside_definitions : IsSync TheDefinitions.the_row
  inside_definitions = recorded_sync _ _ _ (TheDefinitions.the_type).to_one (struct_sync (shape TheDefinitions.the_type) (Vec-sync _ (Arc-sync _ definition_send definition), tt))

  definitions_send : IsSend Definitions.the_row
  definitions_send = view_send _ _ _ _ _ inside_definitions_send

  definitions : IsSync Definitions.the_row
  definitions = view_sync _ _ _ _ _ inside_definitions

  inside_made_send : IsSend TheMadeBy.the_row
  inside_made_send = recorded_send _ _ _ (TheMadeBy.the_type).to_one (struct_send (shape TheMadeBy.the_type) (BTreeMap-send Text.the_row _ _ equal.ghosts partial.ghosts text_send (Arc-send _ definitions_send definitions), tt))

  inside_made : IsSync TheMadeBy.the_row
  inside_made = recorded_sync _ _ _ (TheMadeBy.the_type).to_one (struct_sync (shape TheMadeBy.the_type) (BTreeMap-sync Text.the_row _ _ equal.ghosts partial.ghosts text (Arc-sync _ definitions_send definitions), tt))

  pub made_send : IsSend MadeBy.the_row
  made_send = view_send _ _ _ _ _ inside_made_send

  pub made : IsSync MadeBy.the_row
  made = view_sync _ _ _ _ _ inside_made

module _ (made_send : IsSend MadeBy.the_row) (made : IsSync MadeBy.the_row) (scope_send : IsSend KeptScope.the_row) (scope : IsSync KeptScope.the_row) where
  inside_import_send : IsSend TheImport.the_row
  inside_import_send = recorded_send _ _ _ (TheImport.the_type).to_one (struct_send (shape TheImport.the_type) (Arc-send _ scope_send scope, (Arc-send _ made_send made, tt)))

  inside_import : IsSync TheImport.the_row
  inside_import = recorded_sync _ _ _ (TheImport.the_type).to_one (struct_sync (shape TheImport.the_type) (Arc-sync _ scope_send scope, (Arc-sync _ made_send made, tt)))

  pub import_send : IsSend ImportValue.the_row
  import_send = view_send _ _ _ _ _ inside_import_send

  pub import_sync : IsSync ImportValue.the_row
  import_sync = view_sync _ _ _ _ _ inside_import
