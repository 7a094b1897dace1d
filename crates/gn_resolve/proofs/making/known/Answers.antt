use Rattle.std.proofs.Common.{Option, Some, None, refl, sym, subst}
use Rattle.gn_items.specs.declared.item.Item.{Item}
use Rattle.gn_records.specs.Around.{around}
use Rattle.gn_resolve.specs.Table.{KnownBy, IsRecordOf}
use Rattle.gn_resolve.proofs.making.known.Goals as goal

pub returns-in-None : goal.returns-in-None
returns-in-None c =
    subst (λ (o : Option Item). KnownBy o (around c.args.context.now) c.args.graph.now.default.now c.args.graph.now.items c.args.graph.now.records c.args.target.now c.args.hard.now None)
    c.in-None.ensures refl

pub returns-in_ok-record-in-Some : goal.returns-in_ok-record-in-Some
returns-in_ok-record-in-Some c =
    subst (λ (o : Option Item).
    KnownBy o (around c.args.context.now) c.args.graph.now.default.now c.args.graph.now.items c.args.graph.now.records c.args.target.now c.args.hard.now (Some c.in_ok-record-in-Some.record.value))
    c.in-Some.ensures (c.in_ok-record-in-Some.record.value, refl, subst (IsRecordOf (around c.args.context.now) c.args.graph.now.default.now c.args.graph.now.items c.args.graph.now.records c.args.target.now c.args.hard.now c.in-Some.item.now) (sym c.in_ok-record-in-Some.ensures.ok) c.in_ok-made-in-Some.ensures)
