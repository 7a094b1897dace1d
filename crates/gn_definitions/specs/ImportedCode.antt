-- Kept scopes and definitions as trees of numbers, one to one, so that each is told from every other.
use Rattle.std.specs.Prelude.{ℕ, List, refl}
use Rattle.std.specs.Coded.{Coded, code_by, coded×, coded_ℕ, coded_list}
use Rattle.gn_paths.specs.declared.place.Place.{Place}
use Rattle.gn_tree.specs.Tree.{BlockTree}
use Rattle.gn_tree.specs.Code.{block_code}
use Rattle.gn_values.specs.Val.{Val}
use Rattle.gn_values.specs.ValCode.{val_code}
use Rattle.gn_definitions.specs.declared.kept.DefinitionName.{DefinitionName}
use Rattle.gn_definitions.specs.Imported.{ScopeState, DefinitionState, MadeBy, ImportState}

abbrev text_code : Coded (List ℕ)
text_code = coded_list coded_ℕ

abbrev bindings_code : Coded (List (List ℕ × Val))
bindings_code = coded_list (coded× text_code val_code)

abbrev pub place_code : Coded Place
place_code =
    code_by (List ℕ × (ℕ × ℕ)) (coded× text_code (coded× coded_ℕ coded_ℕ)) (λ p. (p.file, (p.line, p.column))) (λ p. record { file = p.0; line = p.1.0; column = p.1.1 }) (λ _. refl)

abbrev pub name_code : Coded DefinitionName
name_code =
    code_by (List ℕ × ℕ) (coded× text_code coded_ℕ) (λ n. (n.execution, n.number)) (λ p. record { execution = p.0; number = p.1 }) (λ _. refl)

abbrev pub scope_code : Coded ScopeState
scope_code =
    code_by (List (List ℕ × Val) × (List (List ℕ × DefinitionName) × List (List ℕ × List (List ℕ × Val)))) (coded× bindings_code (coded× (coded_list (coded× text_code name_code)) (coded_list (coded× text_code bindings_code)))) (λ s. (s.variables, (s.templates, s.defaults))) (λ p. record { variables = p.0; templates = p.1.0; defaults = p.1.1 }) (λ _. refl)

abbrev pub definition_code : Coded DefinitionState
definition_code =
    code_by ((Place × ℕ) × ((BlockTree × ScopeState) × List Place)) (coded× (coded× place_code coded_ℕ) (coded× (coded× block_code scope_code) (coded_list place_code))) (λ d. ((d.place, d.nesting), ((d.block, d.scope), d.enclosing))) (λ p. record { place = p.0.0; nesting = p.0.1; block = p.1.0.0; scope = p.1.0.1; enclosing = p.1.1 }) (λ _. refl)

abbrev pub made_code : Coded MadeBy
made_code = coded_list (coded× text_code (coded_list definition_code))

abbrev pub import_code : Coded ImportState
import_code =
    code_by (ScopeState × MadeBy) (coded× scope_code made_code) (λ i. (i.scope, i.definitions)) (λ p. record { scope = p.0; definitions = p.1 }) (λ _. refl)
