use Rattle.std.proofs.Common.{refl}
use Rattle.std.proofs.lemmas.Result.{IfOk-weaker}
use Rattle.gn_closure.specs.Reach.{Setup, Load}
use Rattle.gn_core.specs.Keys.{Read, Unit_of, Resolve}
use Rattle.gn_book.specs.Keys.{key_of, layer_at}
use Rattle.gn_book.specs.Logs.{state_of}
use Rattle.gn_perform.specs.Kept.{asked_so_far, asked_for}
use Rattle.gn_load.proofs.TurnLemmas.{lifted_turn, lifted_ok}
use Rattle.gn_load.proofs.DoneLemmas.{needed_askable}
use Rattle.gn_load.proofs.driver.need.Goals as goal

pub need_read-requires-clause-lacked : goal.need_read-requires-clause-lacked
need_read-requires-clause-lacked g c = rw c.in-Read.is at c.requires.lacked

pub returns-in-Read-clause-turn : goal.returns-in-Read-clause-turn
returns-in-Read-clause-turn g c = λ known before goes. c.need_read.ensures.turn known before (asked_for (Read c.in-Read.path) (asked_so_far c.args.kept)) goes (rw c.in-Read.is at c.requires.needed)

pub need_import-requires-clause-named : goal.need_import-requires-clause-named
need_import-requires-clause-named g c = (layer_at c.in-Import.when c.in-Import.toolchain, c.in-Import.path, refl)

pub need_import-requires-clause-claim : goal.need_import-requires-clause-claim
need_import-requires-clause-claim g c = c.requires.goes.2.going.claims.0

pub need_import-requires-clause-lacked : goal.need_import-requires-clause-lacked
need_import-requires-clause-lacked g c = rw c.in-Import.is at c.requires.lacked

pub returns-in-Import-clause-rests : goal.returns-in-Import-clause-rests
returns-in-Import-clause-rests g c = lifted_ok _ c.need_import.result c.lifted.result c.lifted.ensures c.need_import.ensures.rests

pub returns-in-Import-clause-turn : goal.returns-in-Import-clause-turn
returns-in-Import-clause-turn g c = λ known before goes.
    let now = g.S.Source.state c.args.source.now in
    lifted_turn known before now c.args.driver.now c.args.claim goes c.need_import.new.driver c.need_import.result c.lifted.result
    (IfOk-weaker c.need_import.result _ _ (λ next is. is known before now goes (rw c.in-Import.is at c.requires.needed)) c.need_import.ensures.turn) c.lifted.ensures

pub unreachable-requires : goal.unreachable-requires
unreachable-requires g c = needed_askable c.args.driver.now.base.start (state_of c.args.driver.now.book).filed (key_of c.args.claim.key) (Unit_of (Setup c.in-Setup.field-0)) c.args.place (asked_so_far c.args.kept) (rw c.in-Setup.is at c.requires.needed.0)

pub unreachable-requires-in-Load : goal.unreachable-requires-in-Load
unreachable-requires-in-Load g c = needed_askable c.args.driver.now.base.start (state_of c.args.driver.now.book).filed (key_of c.args.claim.key) (Unit_of (Load c.in-Load.field-0 c.in-Load.field-1)) c.args.place (asked_so_far c.args.kept) (rw c.in-Load.is at c.requires.needed.0)

pub unreachable-requires-in-Resolve : goal.unreachable-requires-in-Resolve
unreachable-requires-in-Resolve g c = needed_askable c.args.driver.now.base.start (state_of c.args.driver.now.book).filed (key_of c.args.claim.key) (Resolve c.in-Resolve.field-0) c.args.place (asked_so_far c.args.kept) (rw c.in-Resolve.is at c.requires.needed.0)
