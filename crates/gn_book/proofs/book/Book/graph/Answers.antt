use Rattle.std.proofs.Common.{subst}
use Rattle.gn_book.specs.Logs.{Log, state_of}
use Rattle.gn_book.specs.Graphs.{IsGraphOf}
use Rattle.gn_book.proofs.book.Book.graph.Goals as goal

pub returns : goal.returns
returns g c = subst (λ (l : Log). IsGraphOf c.self.inside.graph.replies (state_of l).filed) c.self.view_is c.self.invariant.1.0
