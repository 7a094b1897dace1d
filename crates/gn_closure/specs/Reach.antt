-- Which units are reached and which labels are generated: the least set under these rules.
use Rattle.std.specs.Prelude.{◌≡◌, ◌≢◌, ℕ, List, [], ◌∷◌, ◌++◌, Option, Some}
use Rattle.gn_paths.specs.Components.{two_slashes}
use Rattle.gn_labels.specs.declared.label.Label.{Label}
use Rattle.gn_closure.specs.Closure.{In}

-- the directory `//`
unfoldable pub source_root : List ℕ
source_root = two_slashes

-- what is executed as a whole: the build configuration under a toolchain, where the default toolchain has the empty text, or the build file of a
-- directory under a toolchain
pub data Unit_key : Type 0 where
  Setup : (toolchain : List ℕ) → Unit_key
  Load : (dir toolchain : List ℕ) → Unit_key

-- a target: its name, its dependencies, and what else it needs, as its configurations and its pool
pub record Target : Type 0 where
  pub name : List ℕ
  pub deps : List Label
  pub others : List Label

-- a toolchain: the text of its label, and the pools of its tools
pub record Toolchain : Type 0 where
  pub name : List ℕ
  pub pools : List Label

-- what a unit that is done leaves: that of the default toolchain's build configuration names the default toolchain, that of a build file has targets
-- and toolchains
pub record Done : Type 0 where
  pub default : List ℕ
  pub targets : List Target
  pub toolchains : List Toolchain

-- the answers of units, where they are known; one that isn't done has a fault or is spoiled
abbrev pub Units : Type 0
Units = Unit_key → Option (Option Done)

-- a unit is reached, a directory's build file is wanted under a toolchain, a label's target is generated
pub data Fact : Type 0 where
  Is_reached : Unit_key → Fact
  Is_wanted : (dir toolchain : List ℕ) → Fact
  Is_generated : Label → Fact

-- a reached unit and what it leaves
pub record Told : Type 0 where
  pub unit : Unit_key
  pub done : Done

abbrev pub told : Unit_key → Done → Told
told unit done = record { unit = unit; done = done }

abbrev pub label : List ℕ → List ℕ → List ℕ → Label
label dir name toolchain = record { dir = dir; name = name; toolchain = toolchain }

-- the labels that a target needs
abbrev pub needed : Target → List Label
needed t = t.deps ++ t.others

-- A rule: from facts, and from what reached units leave, to a fact. `home` is the directory of the file that defines a toolchain
pub data Rule (home : List ℕ → List ℕ) : List Fact → List Told → Fact → Type 0 where
  -- the default toolchain's build configuration is reached
  first : Rule home [] [] (Is_reached (Setup []))
  -- it wants the build file of the source root, and that which defines the default toolchain
  root : (d : Done) → Rule home [] (told (Setup []) d ∷ []) (Is_wanted source_root d.default)
  own : (d : Done) → Rule home [] (told (Setup []) d ∷ []) (Is_wanted (home d.default) d.default)
  -- a target is generated under the default toolchain
  target : (d u : Done) (dir : List ℕ) (t : Target) → In u.targets t
      → Rule home [] (told (Setup []) d ∷ told (Load dir d.default) u ∷ []) (Is_generated (label dir t.name d.default))
  -- or as a dependency of a generated one
  dependency : (u v : Done) (l m : Label) (t s : Target) → In u.targets t → t.name ≡ m.name → In t.deps l → In v.targets s → s.name ≡ l.name
      → Rule home (Is_generated m ∷ []) (told (Load m.dir m.toolchain) u ∷ told (Load l.dir l.toolchain) v ∷ []) (Is_generated l)
  -- a generated target wants what it needs, the file that defines its toolchain, and the pools of that toolchain's tools
  want : (u : Done) (m l : Label) (t : Target) → In u.targets t → t.name ≡ m.name → In (needed t) l
      → Rule home (Is_generated m ∷ []) (told (Load m.dir m.toolchain) u ∷ []) (Is_wanted l.dir l.toolchain)
  want_toolchain : (d u : Done) (m : Label) (t : Target) → In u.targets t → t.name ≡ m.name
      → Rule home (Is_generated m ∷ []) (told (Setup []) d ∷ told (Load m.dir m.toolchain) u ∷ []) (Is_wanted (home m.toolchain) d.default)
  want_pool : (d u v : Done) (m l : Label) (t : Target) (c : Toolchain) → In u.targets t → t.name ≡ m.name → In v.toolchains c → c.name ≡ m.toolchain → In c.pools l
      → Rule home (Is_generated m ∷ []) (told (Setup []) d ∷ told (Load m.dir m.toolchain) u ∷ told (Load (home m.toolchain) d.default) v ∷ []) (Is_wanted l.dir l.toolchain)
  -- what is wanted under the default toolchain is reached
  load : (d : Done) (dir : List ℕ) → Rule home (Is_wanted dir d.default ∷ []) (told (Setup []) d ∷ []) (Is_reached (Load dir d.default))
  -- under another one, the file that defines it is wanted; its build configuration is reached where it is defined there, and then what is wanted
  want_home : (d : Done) (dir toolchain : List ℕ) → toolchain ≢ d.default → Rule home (Is_wanted dir toolchain ∷ []) (told (Setup []) d ∷ []) (Is_wanted (home toolchain) d.default)
  setup : (d u : Done) (dir : List ℕ) (c : Toolchain) → c.name ≢ d.default → In u.toolchains c
      → Rule home (Is_wanted dir c.name ∷ []) (told (Setup []) d ∷ told (Load (home c.name) d.default) u ∷ []) (Is_reached (Setup c.name))
  other_load : (d s : Done) (dir toolchain : List ℕ) → toolchain ≢ d.default
      → Rule home (Is_wanted dir toolchain ∷ []) (told (Setup []) d ∷ told (Setup toolchain) s ∷ []) (Is_reached (Load dir toolchain))

-- the least set: what a rule makes of facts that hold and of reached units that are done
pub data Holds (home : List ℕ → List ℕ) (a : Units) : Fact → Type 0 where
  by_rule : (fs : List Fact) (ts : List Told) (f : Fact) → Rule home fs ts f
      → ((g : Fact) → In fs g → Holds home a g)
      → ((t : Told) → In ts t → Holds home a (Is_reached t.unit))
      → ((t : Told) → In ts t → a t.unit ≡ Some (Some t.done))
      → Holds home a f
