-- Which words have no form, and how many sources they give a worker.
use Rattle.std.specs.Prelude.{◌≡◌, ℕ, List, None}
use Rattle.gn_command_line.specs.Words.{line_said}
use Rattle.gn_top.specs.Exported.{Exported}

-- these words, over these exporters, have none of the forms
unfoldable pub HasNoForm : List (List ℕ) → List Exported → Type 0
HasNoForm words exporters = line_said words ≡ None

-- how many of the sources have a worker, and so may be read
unfoldable pub worker_count : List (List ℕ) → ℕ → ℕ
worker_count words sources = 1
