use Rattle.std.proofs.Common.{subst}
use Rattle.gn_book.specs.Logs.{Log, KeysDiffer}
use Rattle.gn_book.proofs.book.Book.keys_differ.Goals as goal

pub returns : goal.returns
returns g c = subst (λ (l : Log). KeysDiffer l) c.self.view_is c.self.invariant.0.0.table
