use Rattle.std.proofs.Common.{◌≡◌, take, map}
use Rattle.std.specs.List.{fold, flat_map}
use Rattle.gn_text.specs.Names.{with_name}
use Rattle.gn_writing.specs.Kinds.{run_outs}
use Rattle.gn_ninja.proofs.parts.add_runs.Given as goal

abbrev pub invariant-loop-run : goal.invariant-loop-run
invariant-loop-run l = (l.seen ≡ fold with_name l.fn.seen (flat_map run_outs (take l.run-index l.runs))) × (map (λ t. t.now) l.paths.items ≡ l.seen)
