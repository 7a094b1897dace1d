-- Plain calls: those that need nothing but the values of their arguments, where they stand and what has been defined before. Each is one definition from
-- values to an answer, and one line here.
use Rattle.std.specs.Prelude.{ℕ, Bool, true, false, if◌then◌else◌, List, [], ◌∷◌, ◌++◌, Option, Some, None, option_map, Result, Ok, Err, codes}
use Rattle.std.specs.List.{flat_map, join_by}
use Rattle.gn_paths.specs.declared.error.PathFault.{PathFault}
use Rattle.gn_paths.specs.Directory.{is_below}
use Rattle.gn_paths.specs.Resolve.{path_meant}
use Rattle.gn_tree.specs.declared.position.Position.{Position}
use Rattle.gn_tree.specs.declared.tree.Call.{Call}
use Rattle.gn_values.specs.Val.{Val, vbool, vstr, vlist}
use Rattle.gn_values.specs.Text.{text_of}
use Rattle.gn_faults.specs.declared.code.Code.{Code}
use Rattle.gn_faults.specs.declared.code.Code.TheVariants as code
use Rattle.gn_calls_text.specs.Answers as text_calls
use Rattle.gn_calls_text.specs.Answers.{texts_in}
use Rattle.gn_calls_text.specs.Calls.{text_call}
use Rattle.gn_calls_path.specs.Calls.{path_call}
use Rattle.gn_items.specs.declared.item.Item.{Item}
use Rattle.gn_items.specs.Effects.{with_print, with_written}
use Rattle.gn_environment.specs.Environment.{Setting}
use Rattle.gn_meaning.specs.Steps.{Steps, ends}
use Rattle.gn_meaning.specs.Words.{fails_at}
use Rattle.gn_meaning.specs.Arguments.{at_argument, refused_runs}
use Rattle.gn_meaning.specs.Imports.{place_here, path_code}
use Rattle.gn_meaning.specs.Items.{where_here}
use Rattle.gn_meaning.specs.Outputs.{target_outputs}
use Rattle.gn_functions.specs.declared.function.Plain.{Plain}
use Rattle.gn_functions.specs.declared.function.Plain.TheVariants.{Assert, Print, WriteFile, Text, Path, TargetOutputs}

-- what a plain call answers: a value, nothing, a printed line, a file that is written, or a refusal with its code and details, at the argument of this
-- number, counted from 0, or at the name of the call; or it doesn't take these values, which is refused as a wrong number of arguments is
pub data Settled : Type 0 where
  gives : Val → Settled
  gives_nothing : Settled
  prints : List ℕ → Settled
  writes : (path bytes : List ℕ) → Settled
  refuses : Code → Option ℕ → List (List ℕ) → Settled
  refuses_values : Settled

-- an argument of a wrong type
abbrev pub wrong_type : ℕ → Settled
wrong_type number = refuses code.BadTypes (Some number) []

-- `assert`: the types from left to right, then the condition
abbrev pub asserted : Bool → List (List ℕ) → Settled
asserted true message = gives_nothing
asserted false message = refuses code.AssertFailed None message

unfoldable pub assert_answer : List Val → Settled
assert_answer (vbool b ∷ []) = asserted b []
assert_answer (vbool b ∷ vstr text ∷ []) = asserted b (text ∷ [])
assert_answer (vbool b ∷ _ ∷ vs) = wrong_type 1
assert_answer _ = wrong_type 0

-- `print`: the texts of the values with a blank between two, and a newline
unfoldable pub line_of : List Val → List ℕ
line_of vs = join_by (text_of false) (codes " ") vs ++ 10 ∷ []

-- `write_file`: what is written is a string, or each string of a list and a newline
abbrev pub with_newlines : List (List ℕ) → List ℕ
with_newlines texts = flat_map (λ t. t ++ 10 ∷ []) texts

abbrev pub bytes_written : Val → Option (List ℕ)
bytes_written (vstr text) = Some text
bytes_written (vlist vs) = option_map with_newlines (texts_in (vlist vs))
bytes_written _ = None

-- it is written strictly below the build directory
abbrev pub written_at : List ℕ → Result (List ℕ) PathFault → List ℕ → Settled
written_at build (Err fault) bytes = refuses (path_code fault) (Some 0) []
written_at build (Ok path) bytes = if is_below build path then writes path bytes else refuses code.BadPath (Some 0) []

abbrev pub write_settled : Setting → List ℕ → Option (List ℕ) → Settled
write_settled setting text None = wrong_type 1
write_settled setting text (Some bytes) = written_at setting.context.build_directory (path_meant setting.directory text) bytes

unfoldable pub write_answer : Setting → List Val → Settled
write_answer setting (vstr text ∷ v ∷ []) = write_settled setting text (bytes_written v)
write_answer setting _ = wrong_type 0

-- what a call on texts and lists or on paths and labels answers. Values that it doesn't take are refused at its name; its other refusals show nothing
abbrev pub refusal : Code → Option ℕ → Settled
refusal code.BadArguments number = refuses_values
refusal c number = refuses c number []

abbrev pub settled_of : text_calls.Settled → Settled
settled_of (text_calls.gives v) = gives v
settled_of (text_calls.refuses c number) = refusal c number

-- what the call answers to these values where it stands, and where these items have been defined
unfoldable pub answer : Plain → Setting → List Item → List Val → Settled
answer Assert setting items vs = assert_answer vs
answer Print setting items vs = prints (line_of vs)
answer WriteFile setting items vs = write_answer setting vs
answer (Text f) setting items vs = settled_of (text_call f vs)
answer (Path f) setting items vs = settled_of (path_call f (where_here setting) vs)
answer TargetOutputs setting items vs = settled_of (target_outputs setting items vs)

-- where a refusal stands
abbrev pub refused_position : Option ℕ → Call → Position
refused_position (Some number) call = at_argument call number
refused_position None call = call.position

-- what an answer does
unfoldable pub settled_runs : Settled → Call → Steps (Option Val)
settled_runs (gives v) call env out = ends (Some v) env out
settled_runs gives_nothing call env out = ends None env out
settled_runs (prints line) call env out = ends None env (with_print line out)
settled_runs (writes path bytes) call env out =
    ends None env (with_written (record { path = path; bytes = bytes; place = place_here call.position env }) out)
settled_runs (refuses c number detail) call env out = fails_at c (refused_position number call) detail env out
settled_runs refuses_values call env out = refused_runs call env out

abbrev pub plain_runs : Plain → List Val → Call → Steps (Option Val)
plain_runs f vs call env out = settled_runs (answer f env.setting out.items vs) call env out
