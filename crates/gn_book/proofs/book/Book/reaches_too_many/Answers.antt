use Rattle.std.proofs.Common.{◌∙◌}
use Rattle.gn_book.proofs.Graphing.{too_large_same}
use Rattle.gn_book.proofs.book.Book.reaches_too_many.Goals as goal

pub returns : goal.returns
returns g c = c.is_too_large.ensures ∙ too_large_same _ _ c.self.inside.graph c.self.inside.seen c.self.view_is c.self.invariant.1
