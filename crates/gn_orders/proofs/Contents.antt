-- `read_file` leaves in order what it finds in order: what the evaluation of a content leaves is let go.
use Rattle.std.proofs.Common.{ℕ, List, [], ◌∷◌, Option, Some, None, Result, Ok, Err}
use Rattle.gn_paths.specs.declared.error.PathFault.{PathFault}
use Rattle.gn_paths.specs.Components.{is_system}
use Rattle.gn_paths.specs.Resolve.{path_meant}
use Rattle.gn_tree.specs.declared.tree.Call.{Call}
use Rattle.gn_tree.specs.Tree.{ExprTree}
use Rattle.gn_values.specs.Val.{Val}
use Rattle.gn_calls_text.specs.declared.conversions.Conversion.{Conversion}
use Rattle.gn_calls_text.specs.Conversions.{conversion_of}
use Rattle.gn_runs.specs.Runs.{Question, Answers, End, ended, wrong, spoiled, needs, Run}
use Rattle.gn_environment.specs.Environment.{Environment}
use Rattle.gn_meaning.specs.Steps.{Left, Steps}
use Rattle.gn_meaning.specs.Contents.{Read, comes_to, holds, found_read, path_read, is_too_deep, conversion_read, text_at, texts_read, reading_runs, reading_begins, evaluated_end, evaluated_runs, read_ends, read_file_runs}
use Rattle.gn_orders.proofs.Ends.{Leaves, Keep, keep_do, keep_ends, fails_so, so_if, keep_asks_content}
use Rattle.gn_orders.proofs.Steps.{settled_keeps}

evaluated_leaves : (call : Call) (env : Environment) (run : Run (Left Val)) → Leaves env (evaluated_runs run call env)
evaluated_leaves call env run = by run.end run.asked
  where
    by : (end : End (Left Val)) (asked : List Question) → Leaves env (evaluated_end end asked call env)
    by (ended l) asked = keep_ends _ env l.effects (λ o. o)
    by (wrong fault) asked = record { so = tt }
    by (spoiled path place) asked = record { so = tt }
    by (needs question place) asked = record { so = tt }

path_read_keeps : (conversion : Conversion) (r : Result (List ℕ) PathFault) (a : Answers) (call : Call) → Keep (path_read conversion r a call)
path_read_keeps conversion (Err fault) a call env out = fails_so _ out
path_read_keeps conversion (Ok path) a call env out =
    so_if (is_system path) _ _ (fails_so _ out)
    (keep_asks_content (a.contents path) path _ out _ (λ content out1. keep_ends (found_read conversion path content) env out1 (λ o. o)))

conversion_read_keeps : (conversion : Option Conversion) (name text : List ℕ) (a : Answers) (n : ℕ) (call : Call) → Keep (conversion_read conversion name text a n call)
conversion_read_keeps None name text a n call env out = fails_so _ out
conversion_read_keeps (Some conversion) name text a n call env out =
    so_if (is_too_deep conversion n env) _ _ (fails_so _ out) (path_read_keeps conversion (path_meant env.setting.directory text) a call env out)

texts_read_keeps : (text name : Option (List ℕ)) (a : Answers) (n : ℕ) (call : Call) → Keep (texts_read text name a n call)
texts_read_keeps (Some text) (Some name) a n call env out = conversion_read_keeps (conversion_of name) name text a n call env out
texts_read_keeps (Some text) None a n call env out = fails_so _ out
texts_read_keeps None name a n call env out = fails_so _ out

reading_keeps : (a : Answers) (vs : List Val) (n : ℕ) (call : Call) → Keep (reading_runs a vs n call)
unfolding reading_runs
reading_keeps a [] n call env out = fails_so _ out
reading_keeps a (text ∷ []) n call env out = fails_so _ out
reading_keeps a (text ∷ name ∷ []) n call env out = texts_read_keeps (text_at text) (text_at name) a n call env out
reading_keeps a (text ∷ name ∷ other ∷ vs) n call env out = fails_so _ out

read_keeps : (reads : ExprTree → Steps Val) (read : Read) (n : ℕ) (call : Call) → Keep (read_ends reads read n call)
unfolding read_ends
read_keeps reads (comes_to settled) n call env out = settled_keeps settled call env out
read_keeps reads (holds path e) n call env out = evaluated_leaves call env (reads e (reading_begins path n env) out)

pub read_file_keeps : (a : Answers) (reads : ExprTree → Steps Val) (vs : List Val) (n : ℕ) (call : Call) → Keep (read_file_runs a reads vs n call)
read_file_keeps a reads vs n call env out = keep_do _ _ (reading_keeps a vs n call env out) (λ read env1 out1. read_keeps reads read n call env1 out1)
