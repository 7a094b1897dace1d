-- The parts of a call, as the program has it.
use Rattle.std.specs.Prelude.{ℕ, []}
use Rattle.gn_tree.specs.declared.tree.Call.{Call}
use Rattle.gn_tree.specs.Views.{body_of}
use Rattle.gn_meaning.specs.Steps.{World, deeper}
use Rattle.gn_meaning.specs.FunctionCalls.{Parts}
use Rattle.gn_meaning.specs.Meaning.{values_run, others_run, defined_runs, foreach_runs, body_runs}

-- the parts of a call whose name nests so deep
abbrev pub parts : World → ℕ → Call → Parts
parts w n call = record {
  values = values_run w (deeper n 1) call.arguments [];
  others = others_run w (deeper n 1) call.arguments;
  tests = defined_runs w (deeper n 1) call.arguments call.position call.name;
  loops = foreach_runs w (deeper n 1) call.arguments call.position call.name (body_runs w (deeper n 1) (body_of call.block));
  block = body_runs w (deeper n 1) (body_of call.block);
  reads = w.read;
}
