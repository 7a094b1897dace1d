-- What is told of the content of a file, as a step of the execution that asks for it.
use Rattle.std.specs.Prelude.{ℕ, List, Option, Some, None}
use Rattle.gn_runs.specs.Runs.{Content, is_absent, Answers}
use Rattle.gn_environment.specs.Environment.{Environment}
use Rattle.gn_meaning.specs.Steps.{Steps, ends, then_do, content_asked}
use Rattle.gn_executions.specs.Units.{own_place}
use Rattle.gn_executions.specs.Setups.{path_below, in_file}

-- the content at a path, for which the file asks at its line 1, column 1
abbrev pub own_content_runs : List ℕ → Answers → Steps Content
own_content_runs path answers env out =
    content_asked (answers.contents path) path (own_place path) out (λ content out1. ends content env out1)

-- the places of the file at another path are there, where something is there
abbrev pub placed : List ℕ → Content → Environment → Environment
placed other is_absent env = env
placed other content env = in_file other env

-- what there is at another path
abbrev pub found_below : List ℕ → Answers → Steps Content
found_below other answers env out = then_do (own_content_runs other answers env out) (λ content env1 out1. ends content (placed other content env1) out1)

abbrev pub found_or_below : List ℕ → Answers → Content → Steps Content
found_or_below other answers is_absent env out = found_below other answers env out
found_or_below other answers content env out = ends content env out

-- what there is where the file that is evaluated is looked for, at whose path there is this: where nothing is there, it is looked for at the same path
-- below the secondary source tree
abbrev pub found_in : Option (List ℕ) → Answers → Content → Steps Content
found_in None answers content env out = ends content env out
found_in (Some tree) answers content env out = found_or_below (path_below tree env.setting.file) answers content env out
