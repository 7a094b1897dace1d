use Rattle.std.proofs.Common.{◌≡◌, map}
use Rattle.gn_calls_text.specs.Views.{bytes_in}
use Rattle.gn_calls_path.specs.Found.{each}
use Rattle.gn_calls_path.specs.Views.{made_at}
use Rattle.gn_calls_path.proofs.EachLemmas.{onto, each_from}
use Rattle.gn_calls_path.proofs.making.make_each.Given as goal

abbrev pub invariant-loop-text : goal.invariant-loop-text
invariant-loop-text l = onto l.made.items (each_from (made_at l.at l.making) l.texts l.text-index) ≡ each (made_at l.at l.making) (map bytes_in l.texts)
