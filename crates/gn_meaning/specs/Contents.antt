-- `read_file`: what it asks for, and what is made of the content of the file.
use Rattle.std.specs.Prelude.{ℕ, suc, min, Bool, false, ◌&&◌, nat_lt, if◌then◌else◌, List, [], ◌∷◌, Option, Some, None, Result, Ok, Err}
use Rattle.gn_paths.specs.declared.error.PathFault.{PathFault}
use Rattle.gn_paths.specs.Components.{is_system}
use Rattle.gn_paths.specs.Resolve.{path_meant}
use Rattle.gn_tree.specs.declared.tree.Call.{Call}
use Rattle.gn_tree.specs.Tree.{ExprTree}
use Rattle.gn_grammar.specs.declared.fault.SyntaxFault.{SyntaxFault}
use Rattle.gn_syntax.specs.Reading.{expr_reading}
use Rattle.gn_values.specs.Val.{Val, vstr}
use Rattle.gn_faults.specs.declared.code.Code.TheVariants as code
use Rattle.gn_calls_text.specs.declared.conversions.Conversion.{Conversion}
use Rattle.gn_calls_text.specs.declared.conversions.Conversion.TheVariants.{Nothing, Of, Evaluated}
use Rattle.gn_calls_text.specs.Conversions.{conversion_of, is_evaluated, converted}
use Rattle.gn_runs.specs.Runs.{Question, Content, has_bytes, is_absent, is_too_big, Answers, End, ended, wrong, spoiled, needs, Run}
use Rattle.gn_environment.specs.Environment.{Environment, new_environment}
use Rattle.gn_environment.specs.Templates.{at_depth}
use Rattle.gn_environment.specs.Faults.{fault_in}
use Rattle.gn_meaning.specs.Steps.{Left, Steps, then_do, ends, max_evaluation_depth, content_asked}
use Rattle.gn_meaning.specs.Words.{fails_at}
use Rattle.gn_meaning.specs.Arguments.{at_argument, refused_runs}
use Rattle.gn_meaning.specs.Imports.{place_here, path_code}
use Rattle.gn_meaning.specs.Templates.{opened_depth}
use Rattle.gn_meaning.specs.PlainCalls.{Settled, gives_nothing, refuses, refuses_values, settled_of, settled_runs}

-- what a content comes to: an answer as that of a plain call, or an expression that is the file at this path and has to be evaluated
pub data Read : Type 0 where
  comes_to : Settled → Read
  holds : (path : List ℕ) → ExprTree → Read

-- bytes that are no expression are values that the call doesn't take
abbrev pub expression_in : List ℕ → Result ExprTree SyntaxFault → Read
expression_in path (Ok expression) = holds path expression
expression_in path (Err fault) = comes_to refuses_values

-- what is made of the bytes of a file
abbrev pub bytes_read : Conversion → (path bytes : List ℕ) → Read
bytes_read Nothing path bytes = comes_to gives_nothing
bytes_read (Of form) path bytes = comes_to (settled_of (converted form bytes))
bytes_read Evaluated path bytes = expression_in path (expr_reading bytes)

-- the same of what there is at the path: where there is no file, or one that is too big, the path is at fault
abbrev pub found_read : Conversion → List ℕ → Content → Read
found_read conversion path is_absent = comes_to (refuses code.NoFile (Some 0) (path ∷ []))
found_read conversion path is_too_big = comes_to (refuses code.FileTooBig (Some 0) (path ∷ []))
found_read conversion path (has_bytes bytes) = bytes_read conversion path bytes

-- the content of the file is asked for
abbrev pub content_read : Conversion → List ℕ → Answers → Call → Steps Read
content_read conversion path a call env out =
    content_asked (a.contents path) path (place_here call.position env) out (λ content out1. ends (found_read conversion path content) env out1)

-- the path of the file is resolved from the current directory, and isn't a system path
abbrev pub path_read : Conversion → Result (List ℕ) PathFault → Answers → Call → Steps Read
path_read conversion (Err fault) a call env out = fails_at (path_code fault) (at_argument call 0) [] env out
path_read conversion (Ok path) a call env out =
    if is_system path then fails_at code.BadPath (at_argument call 0) [] env out else content_read conversion path a call env out

-- the depth of the evaluation while one more call is open, whose name nests so deep; above the greatest depth nothing is told apart
abbrev pub read_depth : ℕ → Environment → ℕ
read_depth nesting env = min (opened_depth nesting env) (suc max_evaluation_depth)

-- the evaluation of a content makes the whole deeper as a call of a template does, whose name nests so deep
abbrev pub is_too_deep : Conversion → ℕ → Environment → Bool
is_too_deep conversion nesting env = is_evaluated conversion && nat_lt max_evaluation_depth (read_depth nesting env)

-- the conversion is judged before the path: its name, and then how deep the evaluation gets
abbrev pub conversion_read : Option Conversion → (name text : List ℕ) → Answers → ℕ → Call → Steps Read
conversion_read None name text a nesting call env out = fails_at code.Excluded call.position (name ∷ []) env out
conversion_read (Some conversion) name text a nesting call env out =
    if is_too_deep conversion nesting env then fails_at code.Nesting call.position [] env out
    else path_read conversion (path_meant env.setting.directory text) a call env out

-- the string that a value is, if it is one
abbrev pub text_at : Val → Option (List ℕ)
text_at (vstr text) = Some text
text_at _ = None

-- the types come first, from left to right
abbrev pub texts_read : (text name : Option (List ℕ)) → Answers → ℕ → Call → Steps Read
texts_read (Some text) (Some name) a nesting call env out = conversion_read (conversion_of name) name text a nesting call env out
texts_read (Some text) None a nesting call env out = fails_at code.BadTypes (at_argument call 1) [] env out
texts_read None name a nesting call env out = fails_at code.BadTypes (at_argument call 0) [] env out

-- `read_file(path, conversion)`
unfoldable pub reading_runs : Answers → List Val → ℕ → Call → Steps Read
reading_runs a (text ∷ name ∷ []) nesting call env out = texts_read (text_at text) (text_at name) a nesting call env out
reading_runs a _ nesting call env out = refused_runs call env out

-- where an expression begins that is read from the file at a path: in an empty scope beneath which nothing stands, in the directory and the open block of the
-- call, and as deep as a call of a template gets. What is defined there is no part of its value, so the definitions are counted anew
abbrev pub reading_begins : List ℕ → ℕ → Environment → Environment
reading_begins path nesting env = at_depth (read_depth nesting env) (new_environment (record env.setting { file = path }) env.execution false [] [])

-- the end of its evaluation: the call has its value, and any fault of it is one of the call. The environment is that of the call
abbrev pub evaluated_end : End (Left Val) → List Question → Call → Environment → Run (Left (Option Val))
evaluated_end (ended l) asked call env = ends (Some l.value) env l.effects
evaluated_end (wrong fault) asked call env = record { end = wrong (fault_in env.setting call.position code.BadArguments (call.name ∷ [])); asked = asked }
evaluated_end (spoiled path place) asked call env = record { end = spoiled path place; asked = asked }
evaluated_end (needs question place) asked call env = record { end = needs question place; asked = asked }

abbrev pub evaluated_runs : Run (Left Val) → Call → Environment → Run (Left (Option Val))
evaluated_runs run call env = evaluated_end run.end run.asked call env

-- what is read is the answer, or is evaluated, where expressions that are read come to this
unfoldable pub read_ends : (ExprTree → Steps Val) → Read → ℕ → Call → Steps (Option Val)
read_ends reads (comes_to settled) nesting call env out = settled_runs settled call env out
read_ends reads (holds path expression) nesting call env out = evaluated_runs (reads expression (reading_begins path nesting env) out) call env

abbrev pub read_file_runs : Answers → (ExprTree → Steps Val) → List Val → ℕ → Call → Steps (Option Val)
read_file_runs a reads vs nesting call env out =
    then_do (reading_runs a vs nesting call env out) (λ read env1 out1. read_ends reads read nesting call env1 out1)
