-- `import`.
use Rattle.std.specs.Prelude.{ℕ, if◌then◌else◌, List, [], ◌∷◌, Option, None, Result, Ok, Err}
use Rattle.gn_paths.specs.declared.error.PathFault.{PathFault}
use Rattle.gn_paths.specs.declared.error.PathFault.TheVariants.{AboveRoot, BadPath}
use Rattle.gn_paths.specs.declared.place.Place.{Place}
use Rattle.gn_paths.specs.Components.{is_system}
use Rattle.gn_paths.specs.Resolve.{path_meant}
use Rattle.gn_tree.specs.declared.position.Position.{Position}
use Rattle.gn_values.specs.Val.{Val, vstr}
use Rattle.gn_faults.specs.declared.code.Code.{Code}
use Rattle.gn_faults.specs.declared.code.Code.TheVariants as code
use Rattle.gn_runs.specs.Runs.{Content, has_bytes, is_absent, is_too_big, Answers}
use Rattle.gn_environment.specs.Environment.{Environment}
use Rattle.gn_environment.specs.Declaring.{import_brought}
use Rattle.gn_meaning.specs.Steps.{Steps, ends, content_asked, import_asked}
use Rattle.gn_meaning.specs.Words.{fails_at}

-- how deep an import may nest, with the depth of the evaluation
abbrev pub max_import_nesting : ℕ
max_import_nesting = 4

-- where a call stands
abbrev pub place_here : Position → Environment → Place
place_here position env = record { file = env.setting.file; line = position.line; column = position.column }

-- the code of a text that means no path
abbrev pub path_code : PathFault → Code
path_code AboveRoot = code.AboveRoot
path_code BadPath = code.BadPath

-- all that an import leaves is merged, or the first name at which it conflicts is a fault of the call
abbrev pub merged_to : Result Environment (List ℕ) → Position → Steps (Option Val)
merged_to (Ok after) position env out = ends None after out
merged_to (Err name) position env out = fails_at code.Conflict position (name ∷ []) env out

-- a file that is there is imported; one that is above the limit makes the import wrong
abbrev pub content_runs : Content → Answers → List ℕ → Position → Position → Steps (Option Val)
content_runs is_absent a path at position env out = fails_at code.NoFile at (path ∷ []) env out
content_runs (has_bytes bytes) a path at position env out =
    import_asked (a.imports path) path (place_here position env) out (λ value out1. merged_to (import_brought position value env) position env out1)
content_runs is_too_big a path at position env out =
    import_asked (a.imports path) path (place_here position env) out (λ value out1. merged_to (import_brought position value env) position env out1)

-- the content of the file is asked for first
abbrev pub path_runs : Result (List ℕ) PathFault → Answers → Position → Position → Steps (Option Val)
path_runs (Err e) a at position env out = fails_at (path_code e) at [] env out
path_runs (Ok path) a at position env out =
    if is_system path then fails_at code.BadPath at [] env out
    else content_asked (a.contents path) path (place_here position env) out (λ content out1. content_runs content a path at position env out1)

-- `import`: the path is resolved from the current directory, and isn't a system path
unfoldable pub imported_runs : Answers → Val → Position → Position → Steps (Option Val)
imported_runs a (vstr text) at position env out = path_runs (path_meant env.setting.directory text) a at position env out
imported_runs a _ at position env out = fails_at code.BadTypes at [] env out
