-- The labels that are generated as entries that are sorted.
use Rattle.std.specs.Prelude.{◌≡◌, ℕ, ◌<◌, List, [], ◌∷◌, ◌++◌, slice_get, Option, Some, None}
use Rattle.std.specs.Borrow.{Bor}
use Rattle.gn_labels.specs.declared.label.Label.{Label}
use Rattle.gn_labels.specs.Labels.{order_key}
use Rattle.gn_closure.specs.Reach.{Is_reached, Is_wanted, Is_generated}
use Rattle.gn_closure.specs.Ground.{Step, Holding, Asked, Used, Defined, Set_up}
use Rattle.gn_closure.specs.Computed.{is_generated}
use Rattle.gn_judging.specs.Whole.{text_key, IsTable}
use Rattle.gn_judging.specs.declared.generated.LentLabel.{LentLabel}

-- the texts by which labels are in order, of an entry
abbrev pub label_texts : LentLabel → List (List ℕ)
label_texts e = e.dir.now ∷ e.name.now ∷ text_key e.toolchain ∷ []

-- the label for which an entry stands
abbrev pub toolchain_lent : List ℕ → Option (Bor (List ℕ)) → List ℕ
toolchain_lent default None = default
toolchain_lent default (Some toolchain) = toolchain.now

abbrev pub label_lent : List ℕ → LentLabel → Label
label_lent default e = record { dir = e.dir.now; name = e.name.now; toolchain = toolchain_lent default e.toolchain }

-- an entry for a label is put behind others
abbrev pub IsPut : List ℕ → Label → List LentLabel → List LentLabel → Type 0
IsPut default label old new = (e : LentLabel) × (label_texts e ≡ order_key default label) × (label_lent default e ≡ label) × (new ≡ old ++ e ∷ [])

-- one for the label of a fact is put behind others, if the fact says that it is generated
abbrev pub IsMore : List ℕ → Step → List LentLabel → List LentLabel → Type 0
IsMore default (Holding (Is_reached unit)) old new = new ≡ old
IsMore default (Holding (Is_wanted dir toolchain)) old new = new ≡ old
IsMore default (Holding (Is_generated label)) old new = IsPut default label old new
IsMore default (Asked label) old new = new ≡ old
IsMore default (Used toolchain) old new = new ≡ old
IsMore default (Defined toolchain) old new = new ≡ old
IsMore default (Set_up toolchain) old new = new ≡ old

-- one of the facts below a number says that the label is generated
abbrev pub IsFound : List Step → ℕ → Label → Type 0
IsFound found end label = (n : ℕ) × (n < end) × (slice_get found n ≡ Some (is_generated label))

-- the entries for the labels of these facts
abbrev pub AreFound : List ℕ → List Step → ℕ → List LentLabel → Type 0
AreFound default found end entries = IsTable (label_lent default) label_texts (order_key default) (IsFound found end) entries
