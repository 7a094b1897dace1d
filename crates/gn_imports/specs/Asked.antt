-- What is asked for, directly or through imports.
use Rattle.std.specs.Prelude.{ℕ, zero, suc, List, [], ◌∷◌, map, length}
use Rattle.std.specs.List.{flat_map}
use Rattle.std.specs.Ordering.{nat_cmp}
use Rattle.std.specs.Cmp.Lexicographic.{slice_cmp}
use Rattle.std.specs.FinMap.{from_entries, keys}
use Rattle.gn_runs.specs.Runs.{Question, content_of, import_of}
use Rattle.gn_imports.specs.Rounds.{Project, final}

-- what the execution of an import asks
abbrev pub asked_by : Project → List ℕ → List Question
asked_by project path = (project.execute path (final project)).asked

-- a question, and what is asked behind it
abbrev pub asked_behind : Question → (List ℕ → List Question) → List Question
asked_behind (content_of path) next = []
asked_behind (import_of path) next = next path

-- these questions, and what is asked through their imports, one in another up to so many
abbrev pub asked_through : Project → ℕ → List Question → List Question
asked_through project zero questions = questions
asked_through project (suc n) questions = flat_map (λ q. q ∷ asked_behind q (λ path. asked_through project n (asked_by project path))) questions

-- the same without a bound: no import needs more others than there are files
unfoldable pub all_asked : Project → List Question → List Question
all_asked project questions = asked_through project (suc (length project.paths)) questions

-- the paths whose contents are asked for, and those that are imported
abbrev pub contents_asked : List Question → List (List ℕ)
contents_asked [] = []
contents_asked (content_of path ∷ qs) = path ∷ contents_asked qs
contents_asked (import_of path ∷ qs) = contents_asked qs

abbrev pub imports_asked : List Question → List (List ℕ)
imports_asked [] = []
imports_asked (content_of path ∷ qs) = imports_asked qs
imports_asked (import_of path ∷ qs) = path ∷ imports_asked qs

-- paths in the order of their bytes, each once
abbrev pub in_path_order : List (List ℕ) → List (List ℕ)
in_path_order paths = keys (from_entries {R = slice_cmp nat_cmp} (map (λ path. (path, tt {0})) paths))
