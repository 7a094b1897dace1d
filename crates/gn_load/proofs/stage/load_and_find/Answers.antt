use Rattle.std.proofs.Common.{[], ◌++◌}
use Rattle.gn_load.proofs.RoundLemmas.{ahead_stops}
use Rattle.gn_load.proofs.StageLemmas.{gone_looked, loads_and_finds, loads_stop_ahead}
use Rattle.gn_load.proofs.stage.load_and_find.Goals as goal

pub load_all-requires-clause-goes : goal.load_all-requires-clause-goes
load_all-requires-clause-goes g c = let goes = c.requires.goes.2 in (c.requires.goes.0 ++ goes.all, goes.mid, goes.goes)

pub load_all-requires-clause-waiting : goal.load_all-requires-clause-waiting
load_all-requires-clause-waiting g c = c.requires.waiting

pub load_all-requires-clause-counted : goal.load_all-requires-clause-counted
load_all-requires-clause-counted g c = c.requires.counted

pub load_all-requires-clause-right : goal.load_all-requires-clause-right
load_all-requires-clause-right g c = c.requires.right

pub returns-in_err-load_all : goal.returns-in_err-load_all
returns-in_err-load_all g c = λ known before goes.
    let was = g.S.Source.state c.args.source.now in
    let now = g.S.Source.state c.load_all.new.source in
    let old = c.args.driver.now in
    loads_stop_ahead known before now old _ c.load_all.new.units c.args.ahead.now.total c.from_residual.result _ c.from_residual.ensures.1
    (ahead_stops known before was now old [] c.args.ahead.now.total c.load_all.new.units goes _ (c.in_err-load_all.ensures (known ++ goes.all) goes.mid goes.goes))

pub find_next-requires : goal.find_next-requires
find_next-requires g c =
    let known = c.requires.goes.0 in
    let before = c.requires.goes.1 in
    let goes = c.requires.goes.2 in
    let loaded = c.in_ok-load_all.ensures (known ++ goes.all) goes.mid goes.goes in
    record { goes = (known, before, (gone_looked known before (g.S.Source.state c.args.source.now) (g.S.Source.state c.load_all.new.source) c.args.driver.now c.load_all.new.driver c.load_all.new.units c.args.ahead.now.total goes loaded.0 loaded.1).goes) }

pub returns : goal.returns
returns g c = λ known before goes.
    let was = g.S.Source.state c.args.source.now in
    let mid = g.S.Source.state c.load_all.new.source in
    let total = c.args.ahead.now.total in
    let loaded = c.in_ok-load_all.ensures (known ++ goes.all) goes.mid goes.goes in
    let looked = gone_looked known before was mid c.args.driver.now c.load_all.new.driver c.load_all.new.units total goes loaded.0 loaded.1 in
    loads_and_finds known before mid c.args.driver.now c.load_all.new.driver c.load_all.new.units total looked (g.S.Source.state c.find_next.new.source) c.find_next.new.driver c.find_next.new.ahead.total c.find_next.result (c.find_next.ensures known before looked.goes)
