-- What threads may share of the base of evaluations.
use denote.Struct.Declared.{shape}
use denote.Param.Send.{IsSend, IsSync, sendable, view_sync, recorded_send, recorded_sync, struct_send, struct_sync}
use Rattle.std.proofs.Crossing.{crosses, Arc-sync, Vec-sync}
use Rattle.gn_paths.specs.contracts.text.Text as Text
use Rattle.gn_paths.specs.contracts.path.Path as Path
use Rattle.gn_values.specs.contracts.bindings.Bindings as Bindings
use Rattle.gn_faults.specs.contracts.stage.Stage as Stage
use Rattle.gn_definitions.specs.contracts.kept.KeptScope as KeptScope
use Rattle.gn_definitions.specs.contracts.import_value.MadeBy as MadeBy
use Rattle.gn_environment.specs.contracts.context.Context as Context
use Rattle.gn_executions.specs.contracts.host.HostNames as HostNames
use Rattle.gn_evaluation_base.specs.contracts.built_in.BuiltIn as BuiltIn
use Rattle.gn_evaluation_base.specs.contracts.base.Base as Base
use Rattle.gn_evaluation_base.specs.contracts.base.Base.TheInside as TheBase

stage_send : IsSend (Stage.the_field).row
stage_send = search (sendable, crosses) depth 40

stage : IsSync (Stage.the_field).row
stage = search (sendable, crosses) depth 40

text_send : IsSend Text.the_row
text_send = search (sendable, crosses) depth 30

text : IsSync Text.the_row
text = search (sendable, crosses) depth 30

path_send : IsSend Path.the_row
path_send = search (sendable, crosses) depth 30

path : IsSync Path.the_row
path = search (sendable, crosses) depth 30

host : IsSync (HostNames.the_field).row
host = search (sendable, crosses) depth 40 fits 10000

module _ (bindings_send : IsSend Bindings.the_row) (bindings : IsSync Bindings.the_row) where
  built_in : IsSync (BuiltIn.the_field).row
  built_in = struct_sync (shape BuiltIn.the_type) (host, (path, (bindings, tt)))

  module _ (scope_send : IsSend KeptScope.the_row) (scope : IsSync KeptScope.the_row) (made_send : IsSend MadeBy.the_row) (made : IsSync MadeBy.the_row) where
    context_send : IsSend Context.the_row
    context_send = recorded_send _ _ _ (Context.the_type).to_one (struct_send (shape Context.the_type) (stage_send, (text_send, (text_send, (text_send, (path_send, (text_send, (bindings_send, tt))))))))

    context : IsSync Context.the_row
    context = recorded_sync _ _ _ (Context.the_type).to_one (struct_sync (shape Context.the_type) (stage, (text, (text, (text, (path, (text, (bindings, tt))))))))

    inside_base : IsSync TheBase.the_row
    inside_base = recorded_sync _ _ _ (TheBase.the_type).to_one (struct_sync (shape TheBase.the_type)
        (Arc-sync _ context_send context, (Vec-sync _ (Arc-sync _ scope_send scope), (Arc-sync _ made_send made, (search (built_in, sendable, crosses) depth 40 fits 10000, (search (sendable, crosses) depth 40, (search (sendable, crosses) depth 40, tt)))))))

    pub base : IsSync Base.the_row
    base = view_sync _ _ _ _ _ inside_base
