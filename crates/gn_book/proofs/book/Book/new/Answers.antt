use Rattle.std.proofs.Common.{List, [], ap, vec_len, vec_capacity, ◌∙◌, arith}
use Rattle.gn_book.specs.declared.event.Event.{Event as Logged}
use Rattle.gn_book.specs.Rosters.{Table}
use Rattle.gn_book.specs.Books.{log_in}
use Rattle.gn_book.proofs.Steps.{new_whole}
use Rattle.gn_book.proofs.Graphing.{graphed_new}
use Rattle.gn_book.proofs.book.Book.new.Goals as goal

pub invariant_of-result : goal.invariant_of-result
invariant_of-result g c = (
  new_whole c.args.seats c.new.result c.reserve.new.self.items
      (vec_len c.reserve.new.self) (vec_capacity c.reserve.new.self)
      c.new.ensures (c.reserve.ensures.items ∙ c.new-log.ensures.items)
      (omega (arith, c.reserve.ensures.len, c.new-log.ensures.len)) (omega (arith, c.reserve.ensures.len, c.new-log.ensures.len, c.in_ok-reserve.ensures.ok)),
  graphed_new _ c.args.seats c.in-Ok.graph (ap (λ (t : Table). log_in c.args.seats t.keys t.standings c.reserve.new.self.items) c.new.ensures ∙ ap (λ (z : List Logged). log_in c.args.seats [] [] z) (c.reserve.ensures.items ∙ c.new-log.ensures.items)) c.in-Ok.ensures,
)
