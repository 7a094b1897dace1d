-- The base of the units that the seat works on.
use Rattle.std.specs.Prelude.{◌≡◌, ◌⊎◌}
use Rattle.gn_executions.specs.Base.{BaseState}
use Rattle.gn_core.specs.Keys.{Layer, Key, Read, Import, Unit_of, Resolve, Filed, layer_of}
use Rattle.gn_core.specs.Layered.{HasLayer}
use Rattle.gn_book.specs.Keys.{layer_at}
use Rattle.gn_projects.specs.Bases.{base_of_layer}
use Rattle.gn_builds.specs.Working.{evaluator}
use Rattle.gn_answers.specs.Bases.{or_start}
use Rattle.gn_load.specs.declared.current.CurrentBase.{CurrentBase}

-- the base, and the layer
abbrev pub base_now : CurrentBase → BaseState
base_now b = or_start b.start b.other

abbrev pub layer_now : CurrentBase → Layer
layer_now b = layer_at b.when b.toolchain

-- over what is filed it is the base of its layer, of which all is filed that this sees
pub record IsCurrent (b : CurrentBase) (filed : Filed) : Type 0 where
  pub sees : HasLayer (evaluator b.start) filed (layer_now b)
  pub is : base_now b ≡ base_of_layer b.start filed (layer_now b)

-- it becomes that of a layer, unless it was
pub record TurnsTo (old new : CurrentBase) (filed : Filed) (l : Layer) : Type 0 where
  pub start : new.start ≡ old.start
  pub layer : layer_now new ≡ l
  pub base : (base_now new ≡ base_of_layer old.start filed l) ⊎ (new ≡ old)

-- that of a unit
abbrev pub TurnsToUnit : CurrentBase → CurrentBase → Filed → Key → Type 0
TurnsToUnit old new filed (Read path) = ⊥
TurnsToUnit old new filed (Import layer path) = ⊥
TurnsToUnit old new filed (Unit_of unit) = TurnsTo old new filed (layer_of unit)
TurnsToUnit old new filed (Resolve label) = ⊥
