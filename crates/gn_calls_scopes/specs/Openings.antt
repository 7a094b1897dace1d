-- Calls that open a scope, seen as the meaning has them.
use Rattle.gn_meaning.specs.OpeningCalls.{Opener, of_template, of_function, Opened, opened_item, opened_template, opened_defaults, opened_arguments}
use Rattle.gn_calls_scopes.specs.declared.openings.Opener.{Opener as Opens}
use Rattle.gn_calls_scopes.specs.declared.openings.Opener.TheVariants.{Template as TemplateOpens, Function}
use Rattle.gn_calls_scopes.specs.declared.openings.Opened.{Opened as IsOpen}
use Rattle.gn_calls_scopes.specs.declared.openings.Opened.TheVariants.{Item, Template, Defaults, Arguments}

-- which call opens a scope
abbrev pub opener_view : Opens → Opener
opener_view (TemplateOpens definition depth) = of_template definition.value depth
opener_view (Function opening) = of_function opening

-- what is open
abbrev pub opened_view : IsOpen → Opened
opened_view (Item kind name) = opened_item kind name
opened_view (Template definition name depth) = opened_template definition.value name depth
opened_view (Defaults kind) = opened_defaults kind
opened_view Arguments = opened_arguments
