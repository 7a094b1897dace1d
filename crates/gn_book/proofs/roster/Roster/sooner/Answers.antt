use Rattle.std.proofs.Common.{sym, subst}
use Rattle.gn_book.specs.Keys.{key_of}
use Rattle.gn_book.specs.Rosters.{IsFirstBelow}
use Rattle.gn_book.proofs.Rostering.{step_first, sooner_by}
use Rattle.gn_book.proofs.roster.Roster.sooner.Goals as goal

pub returns-in-None : goal.returns-in-None
returns-in-None g c =
    step_first c.args.self.now c.args.number c.if-not-tells_ready.ensures.0 (subst (IsFirstBelow c.args.self.now c.args.number) c.in-None.is c.requires.first) c.if-not-tells_ready.ensures.1

pub returns-then-is_later : goal.returns-then-is_later
returns-then-is_later g c =
    sooner_by c.args.self.now c.args.number c.in-Some.other (key_of c.key-in-Some.result.now) (key_of c.key.result.now)
    (subst (IsFirstBelow c.args.self.now c.args.number) c.in-Some.is c.requires.first) c.if-not-tells_ready.ensures c.key.ensures c.key-in-Some.ensures (sym c.if-is_later.ensures)
