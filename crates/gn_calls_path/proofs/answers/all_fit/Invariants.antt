use Rattle.std.proofs.Common.{◌≡◌, drop}
use Rattle.std.specs.List.{list_all}
use Rattle.gn_values.specs.Limits.{text_fits}
use Rattle.gn_calls_path.proofs.answers.all_fit.Given as goal

abbrev pub invariant-loop-text : goal.invariant-loop-text
invariant-loop-text l = list_all text_fits (drop l.text-index l.texts) ≡ list_all text_fits l.texts
