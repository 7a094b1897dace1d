-- Keys that are set with a way back: beside the entries stands what each key had before it was set.
use Rattle.std.specs.Prelude.{List, [], ◌∷◌, Option, Some, None}
use Rattle.std.specs.declared.cmp.Ordering.{Ordering}
use Rattle.std.specs.Map.{remove_entry, set_value}
use Rattle.std.specs.BTreeMap.{is_at}

-- the entries with a key as it was: with the value that it had, or without it
abbrev pub put_back : {K A : Type 0} → (K → K → Ordering) → K → Option A → List (K × A) → List (K × A)
put_back cmp key None entries = remove_entry (is_at (cmp key)) entries
put_back cmp key (Some a) entries = set_value (is_at (cmp key)) entries a

-- the entries with all these keys as they were, the one that was set last first
abbrev pub all_put_back : {K A : Type 0} → (K → K → Ordering) → List (K × Option A) → List (K × A) → List (K × A)
all_put_back cmp [] entries = entries
all_put_back cmp (b ∷ bs) entries = put_back cmp b.0 b.1 (all_put_back cmp bs entries)
