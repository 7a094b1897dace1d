-- Names that are taken out of a table.
use Rattle.std.specs.Prelude.{ℕ, List, [], ◌∷◌}
use Rattle.gn_values.specs.Tables.{Table, without_name}

-- the table without these names, which are taken out from the last one to the first
abbrev pub without_names : {A : Type 0} → List (List ℕ) → Table A → Table A
without_names [] table = table
without_names (n ∷ ns) table = without_name n (without_names ns table)
