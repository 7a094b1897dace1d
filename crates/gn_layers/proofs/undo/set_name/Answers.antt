use Rattle.gn_layers.proofs.Undone.{one_more_back}
use Rattle.gn_layers.proofs.undo.set_name.Goals as goal

pub returns-clause-back : goal.returns-clause-back
returns-clause-back g c =
    let copies = c.in_ok-kept.ensures in
    rw (c.push_reserved.ensures.items, c.in_ok-reserve.ensures.items, copies.0, c.in_ok-old.ensures.entries, copies.1) (one_more_back g.met.K.Ord.total c.args.before.now.items c.args.name.now _ c.args.value c.args.map.now.entries c.in_ok-old.old c.insert.ensures.was_ordered copies.1 c.in_ok-old.ensures.old)
