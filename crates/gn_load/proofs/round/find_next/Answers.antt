use Rattle.std.proofs.Common.{◌++◌}
use Rattle.gn_load.proofs.RebasedDriver.{stop_ahead}
use Rattle.gn_load.proofs.StageLemmas.{numbered_ahead, next_stops_at, finds_next, finds_none}
use Rattle.gn_load.proofs.round.find_next.Goals as goal

pub returns-in_err-number_units : goal.returns-in_err-number_units
returns-in_err-number_units g c = λ known before goes.
    let now = g.S.Source.state c.args.source.now in
    let old = c.args.driver.now in
    next_stops_at known before now old _ c.args.ahead.now.total c.from_residual.result _ c.from_residual.ensures.1
    (stop_ahead old.base.start known before goes.mid now goes.all goes.has _ (c.in_err-number_units.ensures (known ++ goes.all) goes.mid now goes.goes))

pub is_worth_while-requires : goal.is_worth_while-requires
is_worth_while-requires g c = c.requires.goes.2.few

pub find_round-requires-clause-goes : goal.find_round-requires-clause-goes
find_round-requires-clause-goes g c =
    let known = c.requires.goes.0 in
    let before = c.requires.goes.1 in
    let goes = c.requires.goes.2 in
    let now = g.S.Source.state c.args.source.now in
    (known, before, numbered_ahead known before now c.args.driver.now c.number_units.new.driver c.args.ahead.now.total goes (c.in_ok-number_units.ensures (known ++ goes.all) goes.mid now goes.goes))

pub find_round-requires-clause-numbers : goal.find_round-requires-clause-numbers
find_round-requires-clause-numbers g c =
    let goes = c.requires.goes.2 in
    (c.in_ok-number_units.ensures (c.requires.goes.0 ++ goes.all) goes.mid (g.S.Source.state c.args.source.now) goes.goes).numbered.numbers

pub find_round-requires-clause-few : goal.find_round-requires-clause-few
find_round-requires-clause-few g c = c.is_worth_while.ensures c.if-is_worth_while.true

pub returns-then-is_worth_while : goal.returns-then-is_worth_while
returns-then-is_worth_while g c = λ known before goes.
    let was = g.S.Source.state c.args.source.now in
    let old = c.args.driver.now in
    let mid = c.number_units.new.driver in
    let total = c.args.ahead.now.total in
    let numbered = c.in_ok-number_units.ensures (known ++ goes.all) goes.mid was goes.goes in
    finds_next known before was old mid total goes numbered (g.S.Source.state c.find_round.new.source) c.find_round.new.driver c.find_round.new.ahead.total c.find_round.result
    (c.find_round.ensures known before (numbered_ahead known before was old mid total goes numbered))

pub returns-else-is_worth_while : goal.returns-else-is_worth_while
returns-else-is_worth_while g c = λ known before goes.
    let was = g.S.Source.state c.args.source.now in
    finds_none known before was c.args.driver.now c.number_units.new.driver c.args.ahead.now.total goes (c.in_ok-number_units.ensures (known ++ goes.all) goes.mid was goes.goes) _ c.no_files.ensures
