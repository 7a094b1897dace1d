use Rattle.gn_layers.proofs.Undone.{one_less_back}
use Rattle.gn_layers.proofs.undo.put_all_back.Goals as goal

pub loop-name-preserved : goal.loop-name-preserved
loop-name-preserved g c =
    one_less_back g.K.Ord.cmp _ c.pop.new.self.items (c.in-Some.name, c.in-Some.old) c.loop-name.map.entries _ _ c.in-Some.ensures.items c.put_back.ensures c.loop-name.invariant
