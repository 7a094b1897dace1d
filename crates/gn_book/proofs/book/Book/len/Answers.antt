use Rattle.std.proofs.Common.{length, ◌∙◌, ap}
use Rattle.gn_book.specs.Logs.{Log}
use Rattle.gn_book.proofs.book.Book.len.Goals as goal

pub returns : goal.returns
returns g c = c.len.ensures ∙ ap (λ (l : Log). length l.keys) c.self.view_is
