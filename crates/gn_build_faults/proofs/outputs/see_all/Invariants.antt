use Rattle.std.proofs.Common.{◌≡◌, ◌++◌, drop}
use Rattle.gn_build_faults.specs.Outputs.{lent_texts, with_each, made_twice}
use Rattle.gn_build_faults.proofs.outputs.see_all.Given as goal

abbrev pub invariant-loop-output : goal.invariant-loop-output
invariant-loop-output l = record {
  seen : with_each (lent_texts l.seen.keys) (drop l.output-index l.outputs) ≡ with_each (lent_texts l.initial.seen.keys) l.outputs;
  twice : l.twice.items ++ made_twice (lent_texts l.seen.keys) (drop l.output-index l.outputs) ≡ l.initial.twice.items ++ made_twice (lent_texts l.initial.seen.keys) l.outputs;
}
