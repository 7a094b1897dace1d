use Rattle.std.proofs.Common.{Option, sym, subst}
use Rattle.gn_book.specs.declared.book.Claim.{Claim}
use Rattle.gn_book_tests.specs.Seats.{IfTaken}
use Rattle.gn_book_tests.proofs.Claims.{waiting_taken}
use Rattle.gn_book_tests.proofs.cycles.begin.Goals as goal

pub returns : goal.returns
returns c = subst (λ (o : Option Claim). IfTaken c.args.book.now c.wait.new.book o) (sym c.given.ensures) (waiting_taken c.args.book.now c.wait.new.book c.in_ok-blocked.blocked c.in_ok-blocked.ensures)
