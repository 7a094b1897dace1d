-- What a template keeps, and what an import leaves.
use Rattle.std.specs.Prelude.{ℕ, List}
use Rattle.gn_paths.specs.declared.place.Place.{Place}
use Rattle.gn_tree.specs.Tree.{BlockTree}
use Rattle.gn_values.specs.Val.{Val}
use Rattle.gn_definitions.specs.declared.kept.DefinitionName.{DefinitionName}

-- a scope that is kept: its variables, its templates by the names of their definitions, and the defaults of each kind of call, each in the order
-- of the names
pub record ScopeState : Type 0 where
  pub variables : List (List ℕ × Val)
  pub templates : List (List ℕ × DefinitionName)
  pub defaults : List (List ℕ × List (List ℕ × Val))

-- a template's definition: where the name of the call stands that makes it, how deep its block nests in its file, the block, the scope that it keeps,
-- and where the definitions stand in whose bodies it was made
pub record DefinitionState : Type 0 where
  pub place : Place
  pub nesting : ℕ
  pub block : BlockTree
  pub scope : ScopeState
  pub enclosing : List Place

-- definitions by the execution that made them, in the order in which it did
abbrev pub MadeBy : Type 0
MadeBy = List (List ℕ × List DefinitionState)

-- what an import leaves: its scope, and the definitions that the templates of scopes name
pub record ImportState : Type 0 where
  pub scope : ScopeState
  pub definitions : MadeBy
