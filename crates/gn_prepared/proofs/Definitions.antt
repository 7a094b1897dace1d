-- What threads may share and hand over of definitions of templates, and of what stands on them.
use denote.Struct.Declared.{shape}
use denote.Param.Send.{IsSend, IsSync, sendable, view_send, view_sync, recorded_send, recorded_sync, struct_send, struct_sync}
use Rattle.std.proofs.Crossing.{crosses, Arc-send}
use Rattle.gn_tree.specs.contracts.tree.Block as Block
use Rattle.gn_paths.specs.contracts.place.Place as Place
use Rattle.gn_definitions.specs.contracts.kept.KeptScope as KeptScope
use Rattle.gn_definitions.specs.contracts.kept.Definition as Definition
use Rattle.gn_definitions.specs.contracts.kept.Definition.TheInside as TheDefinition

place_send : IsSend (Place.the_field).row
place_send = search (sendable, crosses) depth 60 fits 10000

place : IsSync (Place.the_field).row
place = search (sendable, crosses) depth 60 fits 10000

-- one of them
module _ (block_send : IsSend Block.the_row) (block : IsSync Block.the_row) (scope_send : IsSend KeptScope.the_row) (scope : IsSync KeptScope.the_row) where
  inside_definition_send : IsSend TheDefinition.the_row
  inside_definition_send = recorded_send _ _ _ (TheDefinition.the_type).to_one (struct_send (shape TheDefinition.the_type) (place_send, (search (sendable, crosses) depth 30, (block_send, (Arc-send _ scope_send scope, (search (sendable, crosses) depth 30 fits 10000, tt))))))

  inside_definition : IsSync TheDefinition.the_row
  inside_definition = recorded_sync _ _ _ (TheDefinition.the_type).to_one (struct_sync (shape TheDefinition.the_type) (place, (search (sendable, crosses) depth 30, (block, (search (scope_send, scope, sendable, crosses) depth 30 fits 10000, (search (sendable, crosses) depth 30 fits 10000, tt))))))

  pub definition_send : IsSend Definition.the_row
  definition_send = view_send _ _ _ _ _ inside_definition_send

  pub definition_sync : IsSync Definition.the_row
  definition_sync = view_sync _ _ _ _ _ inside_definition
