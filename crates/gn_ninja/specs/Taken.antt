-- The names that no target can have besides its done file.
use Rattle.std.specs.Prelude.{ℕ, List, [], ◌∷◌, codes}
use Rattle.std.specs.List.{fold, flat_map}
use Rattle.gn_text.specs.Names.{with_name}
use Rattle.gn_writing.specs.declared.records.Written.{Written}
use Rattle.gn_writing.specs.Lines.{made}
use Rattle.gn_writing.specs.Kinds.{target_blocks}

-- what the files of these targets make
abbrev pub made_by_all : List Written → List (List ℕ)
made_by_all targets = flat_map (λ t. made (target_blocks t)) targets

-- the names that are taken: `all`, and what build lines make, each once
abbrev pub taken_by : List Written → List (List ℕ)
taken_by targets = fold with_name (codes "all" ∷ []) (made_by_all targets)
