use Rattle.gn_calls_text.proofs.WordLemmas.{IsGathered}
use Rattle.gn_calls_text.proofs.strings.words_into.Given as goal

abbrev pub invariant-loop-place : goal.invariant-loop-place
invariant-loop-place l = IsGathered l.text l.runs l.start l.place
