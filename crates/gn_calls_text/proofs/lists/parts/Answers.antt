use mir.Syntax.{w64}
use Rattle.std.proofs.lemmas.Int.{to_z-of_z}
use Rattle.gn_calls_text.proofs.PartedLemmas.{too_many_at}
use Rattle.gn_calls_text.proofs.lists.parts.Goals as goal

pub returns-then-count-gt-MAX_ITEMS : goal.returns-then-count-gt-MAX_ITEMS
returns-then-count-gt-MAX_ITEMS c =
    rw c.too_long.ensures (too_many_at c.args.count _ c.args.values.now (to_z-of_z w64 c.args.count c.ranges.count) c.if-count-lt1.false c.if-count-gt-MAX_ITEMS.true)
