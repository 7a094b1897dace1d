use Rattle.std.proofs.Common.{◌≡◌, drop}
use Rattle.std.specs.List.{list_any}
use Rattle.gn_writing.specs.Outputs.{uses}
use Rattle.gn_records.proofs.bound.texts_use.Given as goal

abbrev pub invariant-loop-text : goal.invariant-loop-text
invariant-loop-text l = list_any (uses l.substitution) (drop l.text-index l.texts) ≡ list_any (uses l.substitution) l.texts
