use Rattle.std.proofs.Common.{vec_len, vec_capacity, ◌∙◌, ap, List}
use Rattle.gn_book.specs.declared.event.Event.{Event as Logged}
use Rattle.gn_book.specs.Logs.{events_by}
use Rattle.gn_book.proofs.Steps.{events_same}
use Rattle.gn_book.proofs.book.Book.events.Goals as goal

pub returns : goal.returns
returns g c = ap (λ (z : List Logged). events_by c.args.self.now z) c.deref.ensures.value ∙ events_same c.self.inside.seats c.self.inside.left c.self.inside.stop c.self.inside.roster.keys c.self.inside.roster.standings c.self.inside.log.items (vec_len c.self.inside.log) (vec_capacity c.self.inside.log) c.args.self.now (record { whole = c.self.invariant.0; view_is = c.self.view_is })
