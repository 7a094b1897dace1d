use Rattle.std.proofs.Common.{◌≡◌, map}
use Rattle.gn_calls_text.specs.Views.{bytes_in}
use Rattle.gn_calls_path.specs.Found.{each}
use Rattle.gn_calls_path.specs.Labels.{pattern_at}
use Rattle.gn_calls_path.proofs.EachLemmas.{onto, each_from}
use Rattle.gn_calls_path.proofs.reading.read_patterns.Given as goal

abbrev pub invariant-loop-text : goal.invariant-loop-text
invariant-loop-text l = onto l.patterns.items (each_from (pattern_at l.at) l.texts l.text-index) ≡ each (pattern_at l.at) (map bytes_in l.texts)
