-- The same as ground rules, which each answer gives by itself, the default toolchain known.
use Rattle.std.specs.Prelude.{◌≡◌, ◌≢◌, ℕ, List, [], ◌∷◌, Some}
use Rattle.gn_labels.specs.declared.label.Label.{Label}
use Rattle.gn_closure.specs.Closure.{In}
use Rattle.gn_closure.specs.Reach.{source_root, Setup, Load, Target, Toolchain, Done, Units, Fact, Is_reached, Is_wanted, Is_generated, label, needed}

-- a fact; or a step on the way: a generated target depends on a label or has a toolchain, a toolchain is defined, or its build configuration is done
pub data Step : Type 0 where
  Holding : Fact → Step
  Asked : Label → Step
  Used : (toolchain : List ℕ) → Step
  Defined : (toolchain : List ℕ) → Step
  Set_up : (toolchain : List ℕ) → Step

pub data Ground (home : List ℕ → List ℕ) (default : List ℕ) (a : Units) : List Step → Step → Type 0 where
  start : Ground home default a [] (Holding (Is_reached (Setup [])))
  roots : Ground home default a (Set_up [] ∷ []) (Holding (Is_wanted source_root default))
  owns : Ground home default a (Set_up [] ∷ []) (Holding (Is_wanted (home default) default))
  -- of the answer of a build file
  defines : (u : Done) (dir : List ℕ) (t : Target) → a (Load dir default) ≡ Some (Some u) → In u.targets t
      → Ground home default a (Set_up [] ∷ Holding (Is_reached (Load dir default)) ∷ []) (Holding (Is_generated (label dir t.name default)))
  asks : (u : Done) (m l : Label) (t : Target) → a (Load m.dir m.toolchain) ≡ Some (Some u) → In u.targets t → t.name ≡ m.name → In t.deps l
      → Ground home default a (Holding (Is_generated m) ∷ Holding (Is_reached (Load m.dir m.toolchain)) ∷ []) (Asked l)
  finds : (v : Done) (l : Label) (s : Target) → a (Load l.dir l.toolchain) ≡ Some (Some v) → In v.targets s → s.name ≡ l.name
      → Ground home default a (Asked l ∷ Holding (Is_reached (Load l.dir l.toolchain)) ∷ []) (Holding (Is_generated l))
  wants_it : (u : Done) (m l : Label) (t : Target) → a (Load m.dir m.toolchain) ≡ Some (Some u) → In u.targets t → t.name ≡ m.name → In (needed t) l
      → Ground home default a (Holding (Is_generated m) ∷ Holding (Is_reached (Load m.dir m.toolchain)) ∷ []) (Holding (Is_wanted l.dir l.toolchain))
  uses : (u : Done) (m : Label) (t : Target) → a (Load m.dir m.toolchain) ≡ Some (Some u) → In u.targets t → t.name ≡ m.name
      → Ground home default a (Holding (Is_generated m) ∷ Holding (Is_reached (Load m.dir m.toolchain)) ∷ []) (Used m.toolchain)
  has_tool : (u : Done) (c : Toolchain) → a (Load (home c.name) default) ≡ Some (Some u) → In u.toolchains c
      → Ground home default a (Holding (Is_reached (Load (home c.name) default)) ∷ []) (Defined c.name)
  has_pool : (u : Done) (c : Toolchain) (l : Label) → a (Load (home c.name) default) ≡ Some (Some u) → In u.toolchains c → In c.pools l
      → Ground home default a (Set_up [] ∷ Used c.name ∷ Holding (Is_reached (Load (home c.name) default)) ∷ []) (Holding (Is_wanted l.dir l.toolchain))
  -- of the answer of a build configuration
  sets_up : (s : Done) (toolchain : List ℕ) → a (Setup toolchain) ≡ Some (Some s) → Ground home default a (Holding (Is_reached (Setup toolchain)) ∷ []) (Set_up toolchain)
  -- of a toolchain that a generated target has
  used_home : (toolchain : List ℕ) → Ground home default a (Set_up [] ∷ Used toolchain ∷ []) (Holding (Is_wanted (home toolchain) default))
  -- of a directory and a toolchain that some answer wants
  load_it : (dir : List ℕ) → Ground home default a (Set_up [] ∷ Holding (Is_wanted dir default) ∷ []) (Holding (Is_reached (Load dir default)))
  home_it : (dir toolchain : List ℕ) → toolchain ≢ default → Ground home default a (Set_up [] ∷ Holding (Is_wanted dir toolchain) ∷ []) (Holding (Is_wanted (home toolchain) default))
  set_it : (dir toolchain : List ℕ) → toolchain ≢ default
      → Ground home default a (Set_up [] ∷ Holding (Is_wanted dir toolchain) ∷ Defined toolchain ∷ []) (Holding (Is_reached (Setup toolchain)))
  other_it : (dir toolchain : List ℕ) → toolchain ≢ default
      → Ground home default a (Set_up [] ∷ Holding (Is_wanted dir toolchain) ∷ Set_up toolchain ∷ []) (Holding (Is_reached (Load dir toolchain)))

pub data Follows (home : List ℕ → List ℕ) (default : List ℕ) (a : Units) : Step → Type 0 where
  by_ground : (ss : List Step) (s : Step) → Ground home default a ss s → ((p : Step) → In ss p → Follows home default a p) → Follows home default a s
