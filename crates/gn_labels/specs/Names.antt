-- The names of labels.
use Rattle.std.specs.Prelude.{ℕ, Bool, List, ◌==◌, ◌&&◌, ◌||◌, not}
use Rattle.std.specs.List.{list_all}
use Rattle.std.specs.Str.{is_utf8}
use Rattle.gn_paths.specs.Components.{pieces}
use Rattle.gn_paths.specs.Directory.{leads_down}
use Rattle.gn_paths.specs.Normal.{is_path_byte}

-- the bytes `(`, `)`, `*` and `:`, which have a meaning in labels and patterns
abbrev pub is_mark : ℕ → Bool
is_mark b = (b == 40) || ((b == 41) || ((b == 42) || (b == 58)))

-- the bytes that may stand in a name: all but the marks, NUL and newline
abbrev pub is_name_byte : ℕ → Bool
is_name_byte b = is_path_byte b && not (is_mark b)

-- a name: UTF-8 without `:`, `(`, `)`, `*`, NUL and newline, and none of its parts between slashes is
-- empty, `.` or `..`; so it isn't empty
unfoldable pub is_name : List ℕ → Bool
is_name text = list_all is_name_byte text && (is_utf8 text && list_all leads_down (pieces text))
