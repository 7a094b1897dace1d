-- What evaluations see of the base.
use Rattle.std.specs.Prelude.{◌≡◌, ℕ, ◌<◌, ◌≤◌, List, [], Some, ◌⊎◌}
use Rattle.gn_closure.specs.Closure.{In}
use Rattle.gn_labels.specs.declared.label.Label.{Label}
use Rattle.gn_closure.specs.Reach.{Unit_key, Setup, Load, Target, Toolchain, Done, Is_generated, Holds}
use Rattle.gn_core.specs.Keys.{Layer, early, usual, Key, Read, Import, Unit_of, Resolve, Answer, Filed, layer_of, units}
use Rattle.gn_core.specs.Worlds.{World, true_meaning, IsWorld}
use Rattle.gn_core.specs.Machine.{Defines, UnitsAreDone}

abbrev pub IsPart : Filed → Filed → Type 0
IsPart a b = (k : Key) (v : Answer) → a k ≡ Some v → b k ≡ Some v

-- before its build configuration a toolchain other than the default one sees its definition
abbrev pub HasDefinition : World → Filed → List ℕ → Type 0
HasDefinition w b toolchain =
    (toolchain ≡ [])
    ⊎ ((d : Done) × (u : Done) × (c : Toolchain) × (units b (Setup []) ≡ Some (Some d)) × (units b (Load (w.home toolchain) d.default) ≡ Some (Some u))
    × In u.toolchains c × (c.name ≡ toolchain))

-- and behind it its definition and its finished build configuration, where it isn't the default one
abbrev pub HasSetup : World → Filed → List ℕ → Type 0
HasSetup w b toolchain =
    (d : Done) × (units b (Setup []) ≡ Some (Some d))
    × ((toolchain ≡ d.default) ⊎ (HasDefinition w b toolchain × ((s : Done) × (units b (Setup toolchain) ≡ Some (Some s)))))

abbrev pub HasLayer : World → Filed → Layer → Type 0
HasLayer w b (early toolchain) = HasDefinition w b toolchain
HasLayer w b (usual toolchain) = HasSetup w b toolchain

-- the base has all that the evaluation of a key sees of it; that of a label sees the units of its targets and of all behind it
pub data IsBased (w : World) (b : Filed) : Key → Type 0 where
  for_read : (path : List ℕ) → IsBased w b (Read path)
  for_import : (l : Layer) (path : List ℕ) → HasLayer w b l → IsBased w b (Import l path)
  for_unit : (k : Unit_key) → HasLayer w b (layer_of k) → IsBased w b (Unit_of k)
  for_label : (l : Label) → Holds w.home (units b) (Is_generated l)
      → UnitsAreDone w (units b) l
      → ((t : Target) → Defines w (units b) l t → (m : Label) → In t.deps m → (u : Target) × Defines w (units b) m u)
      → ((t : Target) → Defines w (units b) l t → (m : Label) → In t.deps m → IsBased w b (Resolve m))
      → IsBased w b (Resolve l)

-- the base has the meanings of all keys whose stage is lower than that of this one
abbrev pub HasBelow : World → Filed → Key → Type 0
HasBelow w b k = (q : Key) → w.stage q < w.stage k → b q ≡ Some (true_meaning w q)

pub record IsLayered (w : World) : Type 0 where
  pub is : IsWorld w
  -- of a base that has the meanings of lower stages an evaluation sees nothing else
  pub imports_see : (l : Layer) (path : List ℕ) (b c : Filed) → HasBelow w b (Import l path) → HasBelow w c (Import l path) → w.import_run l b path ≡ w.import_run l c path
  pub units_see : (k : Unit_key) (b c : Filed) → HasBelow w b (Unit_of k) → HasBelow w c (Unit_of k) → w.unit_run k b ≡ w.unit_run k c
  pub records_see : (l : Label) (b c : Filed) → HasBelow w b (Resolve l) → HasBelow w c (Resolve l) → w.record_of l b ≡ w.record_of l c
  -- the imports of a layer have one stage, and no unit of the layer has a lower one
  pub one_stage : (l : Layer) (p q : List ℕ) → w.stage (Import l p) ≡ w.stage (Import l q)
  pub asks_low : (k : Unit_key) (path : List ℕ) → w.stage (Import (layer_of k) path) ≤ w.stage (Unit_of k)
  -- over a base that has all that it sees, an evaluation is the same over more
  pub imports_based : (l : Layer) (path : List ℕ) (b c : Filed) → HasLayer w b l → IsPart b c → w.import_run l c path ≡ w.import_run l b path
  pub units_based : (k : Unit_key) (b c : Filed) → HasLayer w b (layer_of k) → IsPart b c → w.unit_run k c ≡ w.unit_run k b
  pub records_based : (l : Label) (b c : Filed) → IsBased w b (Resolve l) → IsPart b c → w.record_of l c ≡ w.record_of l b
