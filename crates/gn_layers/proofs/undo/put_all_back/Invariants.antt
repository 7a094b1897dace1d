use Rattle.std.proofs.Common.{◌≡◌, vec_len}
use Rattle.gn_layers.specs.Undoing.{all_put_back}
use Rattle.gn_layers.proofs.undo.put_all_back.Given as goal

abbrev pub invariant-loop-name : goal.invariant-loop-name
invariant-loop-name g l = all_put_back g.K.Ord.cmp l.before.items l.map.entries ≡ all_put_back g.K.Ord.cmp l.initial.before.items l.initial.map.entries

abbrev pub decreases-loop-name : goal.decreases-loop-name
decreases-loop-name g l = vec_len l.before
