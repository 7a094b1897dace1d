-- What an execution leaves as trees of numbers, one to one, so that each is told from every other.
use Rattle.std.specs.Prelude.{◌≡◌, ◌⊎◌, ℕ, List, Option, refl}
use Rattle.std.specs.Coded.{Coded, code_by, coded×, coded⊎, coded_ℕ, coded_list, coded_option}
use Rattle.std.proofs.Common.{inl, inr}
use Rattle.gn_runs.specs.Runs.{Question, content_of, import_of}
use Rattle.gn_items.specs.declared.item.Item.{Item}
use Rattle.gn_items.specs.contracts.item.Item as item
use Rattle.gn_items.specs.declared.tool.Tool.{Tool}
use Rattle.gn_items.specs.contracts.tool.Tool as tool
use Rattle.gn_items.specs.declared.written.Written.{Written}
use Rattle.gn_items.specs.contracts.written.Written as written
use Rattle.gn_items.specs.declared.declaration.Declaration.{Declaration}
use Rattle.gn_items.specs.contracts.declaration.Declaration as declaration
use Rattle.gn_items.specs.declared.default_toolchain.DefaultToolchain.{DefaultToolchain}
use Rattle.gn_items.specs.contracts.default_toolchain.DefaultToolchain as default_toolchain
use Rattle.gn_items.specs.Effects.{Effects}

abbrev text_code : Coded (List ℕ)
text_code = coded_list coded_ℕ

abbrev question_cases : Question → List ℕ ⊎ List ℕ
question_cases (content_of path) = inl path
question_cases (import_of path) = inr path

abbrev question_from : List ℕ ⊎ List ℕ → Question
question_from (inl path) = content_of path
question_from (inr path) = import_of path

pub question_back : (q : Question) → question_from (question_cases q) ≡ q
question_back (content_of path) = refl
question_back (import_of path) = refl

abbrev question_code : Coded Question
question_code = code_by (List ℕ ⊎ List ℕ) (coded⊎ text_code text_code) question_cases question_from question_back

abbrev pub effects_code : Coded Effects
effects_code =
    code_by (((List Item × (List Tool × List (List ℕ))) × (List Written × List Question)) × (List Declaration × Option DefaultToolchain))
    (coded× (coded× (coded× (coded_list item.the_row.coded) (coded× (coded_list tool.the_row.coded) (coded_list text_code))) (coded× (coded_list written.the_row.coded) (coded_list question_code))) (coded× (coded_list declaration.the_row.coded) (coded_option default_toolchain.the_row.coded)))
    (λ e. (((e.items, (e.tools, e.prints)), (e.written, e.asked)), (e.declared, e.default_toolchain)))
    (λ p. record { items = p.0.0.0; tools = p.0.0.1.0; prints = p.0.0.1.1; written = p.0.1.0; asked = p.0.1.1; declared = p.1.0; default_toolchain = p.1.1 })
    (λ _. refl)
