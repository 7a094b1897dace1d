-- Calls that take a string or a list of strings and make a text of each: a list gives a list.
use Rattle.std.specs.Prelude.{ℕ, List, [], ◌∷◌, Option, Some, None, option_map, Result, if◌then◌else◌}
use Rattle.std.specs.List.{list_all}
use Rattle.gn_faults.specs.declared.code.Code.{Code}
use Rattle.gn_values.specs.Limits.{text_fits}
use Rattle.gn_values.specs.Val.{Val, vstr, vlist}
use Rattle.gn_calls_text.specs.Answers.{Settled, too_long, text_answer, list_answer, texts_in}
use Rattle.gn_calls_text.specs.Calls.{text_list}
use Rattle.gn_calls_path.specs.Found.{each, read_at}

-- a string, or a list of strings
pub data OneOrList : Type 0 where
  one : List ℕ → OneOrList
  listed : List (List ℕ) → OneOrList

abbrev pub one_or_list : Val → Option OneOrList
one_or_list (vstr t) = Some (one t)
one_or_list (vlist vs) = option_map listed (texts_in (vlist vs))
one_or_list _ = None

-- its texts
abbrev pub texts_of : OneOrList → List (List ℕ)
texts_of (one t) = t ∷ []
texts_of (listed ts) = ts

-- texts as an answer, where each and all of them are within the limits
abbrev pub texts_answer : List (List ℕ) → Settled
texts_answer texts = if list_all text_fits texts then list_answer (text_list texts) else too_long

-- what is made of the texts of the first argument; a fault of one of them stands there
abbrev pub answer_each : (List ℕ → Result (List ℕ) Code) → OneOrList → Settled
answer_each made (one t) = read_at 0 (made t) text_answer
answer_each made (listed ts) = read_at 0 (each made ts) texts_answer
