-- What a library tells of the content of a file, as runs see it.
use Rattle.gn_runs.specs.Runs.{Content, has_bytes, is_absent, is_too_big}
use Rattle.gn_eval.specs.declared.library.Found.{Found}
use Rattle.gn_eval.specs.declared.library.Found.TheVariants.{Bytes, Absent, TooBig}

-- what there is at a path
abbrev pub content_view : Found → Content
content_view (Bytes bytes) = has_bytes bytes
content_view Absent = is_absent
content_view TooBig = is_too_big
