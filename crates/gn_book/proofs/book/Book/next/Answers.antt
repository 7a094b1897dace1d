use Rattle.std.proofs.Common.{vec_len, vec_capacity, sym, subst}
use Rattle.gn_book.specs.declared.next.Next.{Next}
use Rattle.gn_book.specs.Next.{NextIs}
use Rattle.gn_book.proofs.Nexts.{next_holds, next_stops}
use Rattle.gn_book.proofs.book.Book.next.Goals as goal

pub returns-in-Some : goal.returns-in-Some
returns-in-Some g c = next_stops c.self.inside.seats c.self.inside.left c.self.inside.stop c.self.inside.roster c.self.inside.log.items (vec_len c.self.inside.log) (vec_capacity c.self.inside.log) c.args.self.now (record { whole = c.self.invariant.0; view_is = c.self.view_is }) c.in-Some.cause c.in-Some.is

pub returns-in-None : goal.returns-in-None
returns-in-None g c =
    subst (λ (z : Next). NextIs c.args.self.now c.args.seat z) (sym c.next_by.ensures)
    (next_holds c.self.inside.seats c.self.inside.left c.self.inside.stop c.self.inside.roster c.self.inside.log.items (vec_len c.self.inside.log) (vec_capacity c.self.inside.log) c.args.self.now (record { whole = c.self.invariant.0; view_is = c.self.view_is }) c.args.seat c.requires c.in-None.is c.first_ready.result c.first_held.result c.first_ready.ensures c.first_held.ensures)
