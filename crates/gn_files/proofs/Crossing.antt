-- What threads share: of a target its label, a path, and what is written of it; and what build.ninja is made of.
use denote.Enum.Declared as enums
use denote.Struct.Declared as structs
use denote.Param.Send.{IsSync, EachSync, sendable, recorded_sync, enum_sync}
use Rattle.std.proofs.Crossing.{crosses}
use Rattle.gn_paths.specs.contracts.path.Path as Path
use Rattle.gn_labels.specs.contracts.label.Label as Label
use Rattle.gn_writing.specs.contracts.records.Group as Group
use Rattle.gn_writing.specs.contracts.records.CopyTarget as CopyTarget
use Rattle.gn_writing.specs.contracts.records.Action as Action
use Rattle.gn_writing.specs.contracts.records.Compiled as Compiled
use Rattle.gn_writing.specs.contracts.records.Written as Written
use Rattle.gn_ninja.specs.contracts.root.Root as Root
use Rattle.gn_out_files.specs.contracts.out_file.OutFile as OutFile

pub path : IsSync Path.the_row
path = search (sendable, crosses) depth 30

pub label : IsSync Label.the_row
label = search (sendable, crosses) depth 30

-- each kind of target by itself, as a part of what is written: together they have more parts than one search goes through
group : IsSync (structs.field Group.the_type).row
group = search (sendable, crosses) depth 40 fits 10000

copy_target : IsSync (structs.field CopyTarget.the_type).row
copy_target = search (sendable, crosses) depth 40 fits 10000

action : IsSync (structs.field Action.the_type).row
action = search (sendable, crosses) depth 40 fits 10000

compiled : IsSync (structs.field Compiled.the_type).row
compiled = search (sendable, crosses) depth 40 fits 10000

pub written : IsSync Written.the_row
written =
    let kinds : EachSync (enums.shape Written.the_type).variants = ((group, tt), ((copy_target, tt), ((action, tt), ((compiled, tt), tt)))) in
    recorded_sync _ _ _ (Written.the_type).to_one (enum_sync (enums.shape Written.the_type) kinds)

pub root : IsSync Root.the_row
root = search (sendable, crosses) depth 40 fits 10000

pub out_file : IsSync OutFile.the_row
out_file = search (sendable, crosses) depth 40
