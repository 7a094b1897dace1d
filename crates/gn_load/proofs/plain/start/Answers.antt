use Rattle.std.proofs.Common.{refl}
use Rattle.gn_load.proofs.PlainLemmas.{starts_as}
use Rattle.gn_load.proofs.plain.start.Goals as goal

pub returns : goal.returns
returns c = starts_as c.args.base c.args.known.entries _ c.in_ok-base.ensures.start c.in_ok-base.ensures.other c.in_ok-base.ensures.layer c.in_ok-book.ensures c.new-3.ensures.items refl refl
