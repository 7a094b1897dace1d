use Rattle.std.proofs.Common.{sym, ◌∙◌}
use Rattle.gn_syntax.proofs.Literals.{front_right, stepped_item}
use Rattle.gn_syntax.proofs.pieces.Reading.step.Goals as goal

pub item-requires : goal.item-requires
item-requires c = front_right c.in-Some.first c.args.bytes.now c.after_one.result.now c.in-Some.ensures c.after_one.ensures.value c.requires

pub returns-clause-ok : goal.returns-clause-ok
returns-clause-ok c =
    stepped_item c.args.position c.args.at c.in-Some.first c.in_ok-len.len c.args.bytes.now c.after_one.result.now
    c.args.self.now.pieces.items c.args.self.now.run c.item.new.self.pieces.items c.item.new.self.run
    c.in-Some.ensures c.after_one.ensures.value (sym c.is_stop.ensures ∙ c.if-is_stop.false) c.requires c.in_ok-len.ensures.len
    (rw c.further.ensures at c.in_ok-len.ensures.took)
