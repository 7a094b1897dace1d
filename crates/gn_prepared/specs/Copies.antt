-- The answers of copies of some of what is filed.
use Rattle.std.specs.Prelude.{◌≡◌, Bool, Option, None, option_map}
use Rattle.indexmap.specs.IndexMap.{IndexMap, get_by}
use Rattle.gn_closure.specs.Reach.{Unit_key}
use Rattle.gn_core.specs.Keys.{Key, Read, Import, Unit_of, Resolve, Answer, Filed, same_key}
use Rattle.gn_items.specs.declared.key.Key.{Key as Named}
use Rattle.gn_book.specs.Keys.{key_of}
use Rattle.gn_answers.specs.Answers.{meaning_of}
use Rattle.gn_answers.specs.declared.answer.Filed.{Filed as Kept}
use Rattle.gn_prepared.specs.declared.copies.Copies.{Copies}

-- a key of the code is this one
abbrev pub is_key : Key → Named → Bool
is_key k x = same_key k (key_of x)

-- the answer that was copied for a key
abbrev pub copied : {S : Type 0} → IndexMap Named Kept S → Key → Option Answer
copied answers k = option_map meaning_of (get_by (is_key k) answers)

-- the answers: those of contents and of imports alone
abbrev pub answers_in : {S : Type 0} → IndexMap Named Kept S → Filed
answers_in answers (Read path) = copied answers (Read path)
answers_in answers (Import layer path) = copied answers (Import layer path)
answers_in answers (Unit_of unit) = None
answers_in answers (Resolve label) = None

-- the answers of copies; what they say is seen only where this is opened
unfoldable pub answers_of : Copies → Filed
answers_of copies = answers_in copies.answers

-- nothing is filed for units
abbrev pub HasNoUnits : Filed → Type 0
HasNoUnits part = (u : Unit_key) → part (Unit_of u) ≡ None
