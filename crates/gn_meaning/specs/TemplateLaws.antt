-- Templates are not called in their own bodies.
use Rattle.std.specs.Prelude.{◌≡◌, ℕ, false, Some}
use Rattle.gn_paths.specs.declared.place.Place.{Place}
use Rattle.gn_tree.specs.declared.position.Position.{Position}
use Rattle.gn_tree.specs.Tree.{BlockTree}
use Rattle.gn_definitions.specs.Imported.{DefinitionState}
use Rattle.gn_items.specs.Effects.{Effects}
use Rattle.gn_runs.specs.Runs.{Answers}
use Rattle.gn_environment.specs.Environment.{Environment}
use Rattle.gn_environment.specs.Templates.{same_place}
use Rattle.gn_environment.specs.Within.{IsWithin}
use Rattle.gn_meaning.specs.Steps.{Steps}
use Rattle.gn_meaning.specs.Meaning.{block_runs, calls, reads}

-- what the bodies of templates do is the same, but for templates that are defined at this place
abbrev pub AreTheSameBut : Place → (DefinitionState → Position → Steps (Unit {0})) → (DefinitionState → Position → Steps (Unit {0})) → Type 0
AreTheSameBut place bodies others =
    (definition : DefinitionState) → same_place definition.place place ≡ false
    → (position : Position) (env : Environment) (out : Effects) → bodies definition position env out ≡ others definition position env out

-- what a block does in the body of a template, or in that of one that is defined there, however deep, is the same whatever the body of that template would
-- do, where expressions that are read from files come to the same
abbrev pub BodiesDontCallTheirTemplates : Type 0
BodiesDontCallTheirTemplates =
    (room nesting : ℕ) (answers : Answers) (others : DefinitionState → Position → Steps (Unit {0})) (outermost body : DefinitionState)
    → IsWithin outermost body → AreTheSameBut outermost.place (calls room answers) others
    → (block : BlockTree) (env : Environment) (out : Effects) → env.body ≡ Some body
    → block_runs (record { answers = answers; call = calls room answers; read = reads room answers }) nesting block env out
    ≡ block_runs (record { answers = answers; call = others; read = reads room answers }) nesting block env out
