-- Tables: names in the order of their bytes, with what each has.
use Rattle.std.specs.Prelude.{ℕ, List, [], ◌∷◌, Option, Some, None}
use Rattle.std.specs.Ordering.{nat_cmp}
use Rattle.std.specs.Cmp.Lexicographic.{slice_cmp}
use Rattle.std.specs.Map.{lookup, remove_entry}
use Rattle.std.specs.BTreeMap.{is_at, insert_entry}

abbrev pub Table : Type 0 → Type 0
Table A = List (List ℕ × A)

-- what a table has at a name
abbrev pub at_name : {A : Type 0} → List ℕ → Table A → Option A
at_name name table = lookup (is_at (slice_cmp nat_cmp name)) table

-- the table with a name set
abbrev pub with_name : {A : Type 0} → List ℕ → A → Table A → Table A
with_name name a table = insert_entry (slice_cmp nat_cmp) table name a

-- the table without a name
abbrev pub without_name : {A : Type 0} → List ℕ → Table A → Table A
without_name name table = remove_entry (is_at (slice_cmp nat_cmp name)) table

-- the table with all these names set, in order
abbrev pub with_names : {A : Type 0} → Table A → Table A → Table A
with_names [] table = table
with_names (e ∷ es) table = with_names es (with_name e.0 e.1 table)

-- the table with a name set where it has nothing at it
abbrev pub with_new_name : {A : Type 0} → List ℕ → A → Option A → Table A → Table A
with_new_name name a None table = with_name name a table
with_new_name name a (Some b) table = table

-- the table with those of these names set that it has nothing at
abbrev pub with_new_names : {A : Type 0} → Table A → Table A → Table A
with_new_names [] table = table
with_new_names (e ∷ es) table = with_new_names es (with_new_name e.0 e.1 (at_name e.0 table) table)
