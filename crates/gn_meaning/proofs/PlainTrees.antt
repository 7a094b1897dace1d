-- A plain call asks nothing, whatever it answers.
use Rattle.std.proofs.Common.{List}
use Rattle.gn_tree.specs.declared.tree.Call.{Call}
use Rattle.gn_values.specs.Val.{Val}
use Rattle.gn_items.specs.Effects.{with_print, with_written}
use Rattle.gn_meaning.specs.Imports.{place_here}
use Rattle.gn_meaning.specs.PlainCalls.{Settled, gives, gives_nothing, prints, writes, refuses, refuses_values, answer, settled_runs, plain_runs}
use Rattle.gn_functions.specs.declared.function.Plain.{Plain}
use Rattle.gn_meaning.proofs.Steps.{AreQuiet, tree_ends, tree_fails}

pub settled_tree : (s : Settled) (call : Call) → AreQuiet (settled_runs s call)
unfolding settled_runs with_print with_written
settled_tree (gives v) call env out = tree_ends _ env out
settled_tree gives_nothing call env out = tree_ends _ env out
settled_tree (prints line) call env out = tree_ends _ env (with_print line out)
settled_tree (writes path bytes) call env out =
    tree_ends _ env (with_written (record { path = path; bytes = bytes; place = place_here call.position env }) out)
settled_tree (refuses c number detail) call env out = tree_fails _ out
settled_tree refuses_values call env out = tree_fails _ out

pub plain_tree : (f : Plain) (vs : List Val) (call : Call) → AreQuiet (plain_runs f vs call)
plain_tree f vs call env out = settled_tree (answer f env.setting out.items vs) call env out
