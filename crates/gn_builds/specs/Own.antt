-- The files that a log has read. A source that tells no tree has read files too.
use Rattle.std.specs.Prelude.{List, Option, Some, None}
use Rattle.gn_runs.specs.Runs.{Content, is_absent}
use Rattle.gn_executions.specs.Base.{BaseState}
use Rattle.gn_core.specs.Keys.{Key, Read, Answer, found, import_is, no_value, unit_is, record_is}
use Rattle.gn_core.specs.Machine.{IsOver}
use Rattle.gn_book.specs.Logs.{Log, state_of}
use Rattle.gn_projects.specs.Files.{Files}
use Rattle.gn_projects.specs.Worlds.{world_of}
use Rattle.gn_builds.specs.Driving.{IsDriven, paths_read}

abbrev pub content_found : Option Answer → Content
content_found None = is_absent
content_found (Some (found content)) = content
content_found (Some (import_is run)) = is_absent
content_found (Some (no_value path place asked)) = is_absent
content_found (Some (unit_is run)) = is_absent
content_found (Some (record_is bytes)) = is_absent

abbrev pub read_by : BaseState → Log → Files
read_by start l = record { start = start; given = λ path. content_found ((state_of l).filed (Read path)); paths = paths_read l.keys }

-- the log is over them
abbrev pub FilesWereRead : Type 0
FilesWereRead = (start : BaseState) (l : Log) (ks : List Key) → IsDriven start l ks → IsOver (world_of (read_by start l)) l.events
