-- What contracts see of the library over some part of what is filed.
use Rattle.std.specs.Prelude.{◌≡◌, [], Option, Some, None, Bool, true, false}
use Rattle.gn_items.specs.Questions.{question_of}
use Rattle.gn_runs.specs.Runs.{Imported, has_value, is_unusable}
use Rattle.gn_eval.specs.Library.{Need, LibraryState}
use Rattle.gn_eval.specs.declared.library.Imported.{Imported as Answered}
use Rattle.gn_eval.specs.declared.library.Imported.TheVariants.{Value, Absent, Spoiled}
use Rattle.gn_core.specs.Keys.{Answer, no_value, Filed, shown}
use Rattle.gn_book.specs.Keys.{layer_at}
use Rattle.gn_told.specs.declared.told.Needed.{Needed}
use Rattle.gn_told.specs.declared.told.Told.{Told}

abbrev pub need_view : Needed → Need
need_view needed = record { question = question_of needed.question; place = needed.place }

-- it tells what an evaluation of its layer is shown of the part
abbrev pub told_state : {P : Type 0} → (P → Filed) → Told P → LibraryState
told_state answers t = record {
  told = Some (shown (answers t.part.now) (layer_at t.when t.toolchain.now));
  need = need_view t.need;
  stops = t.stops;
  references = [];
}

-- what an import leaves, as far as it is known
abbrev pub ImportedAs : Option Answered → Option Imported → Type 0
ImportedAs None known = known ≡ None
ImportedAs (Some (Value value)) known = known ≡ Some (has_value value)
ImportedAs (Some Absent) known = ⊥
ImportedAs (Some Spoiled) known = known ≡ Some is_unusable

-- whether an import has no value
abbrev pub has_no_value : Option Answer → Bool
has_no_value (Some (no_value path place asked)) = true
has_no_value _ = false
