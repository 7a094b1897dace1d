-- The bodies that stand within the body of a template, and what stands where a definition is made.
use Rattle.std.specs.Prelude.{◌≡◌, ℕ, List, [], ◌∷◌, Some}
use Rattle.gn_tree.specs.declared.position.Position.{Position}
use Rattle.gn_tree.specs.Tree.{BlockTree}
use Rattle.gn_definitions.specs.Imported.{DefinitionState}
use Rattle.gn_environment.specs.Layers.{LayerState}
use Rattle.gn_environment.specs.Environment.{Environment}
use Rattle.gn_environment.specs.Templates.{new_definition}
use Rattle.gn_environment.specs.Shown.{IsInOrder}

-- a definition itself, and each that is made while the body of such a one runs, however deep
pub data IsWithin (outermost : DefinitionState) : DefinitionState → Type 0 where
  itself : IsWithin outermost outermost
  made_inside : (body : DefinitionState) (position : Position) (nesting : ℕ) (block : BlockTree) (env : Environment)
      → IsWithin outermost body → env.body ≡ Some body → IsWithin outermost (new_definition position nesting block env)

-- the tables of variables and of defaults of each of the layers are in order
abbrev pub AreInOrder : List LayerState → Type 0
AreInOrder [] = Unit {0}
AreInOrder (l ∷ ls) = (IsInOrder l.variables × IsInOrder l.defaults) × AreInOrder ls
